mod Banning
