use Rattle.text.proofs.Written.{reads_back}
use Rattle.text.proofs.Back.{words_back, integers_back, folds_back}
use Rattle.text.proofs.laws.written_reads_back.Goals as goal

pub returns : goal.returns
returns c = record { texts = reads_back; words = words_back; integers = integers_back; visits = folds_back _ }
