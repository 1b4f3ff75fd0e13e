use Rattle.std.proofs.Common.{sym}
use Rattle.text.proofs.reader.Reader.blanks.Goals as goal

pub returns : goal.returns
returns c = record { runs = λ f s. c.skip.ensures.runs f (λ k b m. s k b (sym m)); stops = λ i. sym (c.skip.ensures.stops i) }
