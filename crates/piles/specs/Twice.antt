-- A catalogue under two locks.
use Rattle.scanner.specs.Meaning.{Catalogue}
use Rattle.lock.specs.Bans.{Forbidden, locked}

-- what the inner lock bans is not offered, nor what the outer one bans
abbrev pub twice_locked : Catalogue → Forbidden → Forbidden → Catalogue
twice_locked k inner outer = locked (locked k inner) outer
