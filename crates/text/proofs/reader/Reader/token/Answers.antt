use Rattle.std.proofs.Common.{ℕ, List, ◌∷◌, ap, subst, arith}
use Rattle.text.specs.declared.reader.Reader.{Reader}
use Rattle.text.specs.declared.token.Token.{Token}
use Rattle.text.specs.Machine.{value}
use Rattle.text.specs.Ahead.{Onward, TokenAt, TokenRead, ReadsToken}
use Rattle.text.proofs.Steps.{then_passed, then_halted, broken}
use Rattle.text.proofs.Frames.{skip_value}
use Rattle.text.proofs.reader.Reader.token.Goals as goal

token_then : (d : ℕ) (r s u : Reader) (x : Token) → Onward (λ k. value d ∷ k) (λ k. value d ∷ k) r s → TokenRead d s u x s.at → TokenRead d r u x s.at
token_then d r s u x p q = record {
  from = p.forth;
  opened = q.opened;
  moves = omega (arith, p.forth, q.moves);
  token = let P : List ℕ → Type 0 = λ t. TokenAt t s.at u.at x in subst P (ap (λ y. y.now) p.same) q.token;
  passed = then_passed p q.passed;
}

pub returns-in_err-value : goal.returns-in_err-value
returns-in_err-value c = broken (ReadsToken _ _ _) _ c.from_residual.ensures.1 (let w = c.in_err-value.ensures in record { from = c.blanks.new.self; blank = c.blanks.ensures.runs; solid = c.blanks.ensures.stops; shut = w.0; halted = then_halted (c.blanks.ensures.runs _ (skip_value c.args.levels)) w.1 })

pub returns : goal.returns
returns c = token_then _ _ _ _ _ (c.blanks.ensures.runs _ (skip_value c.args.levels)) c.in_ok-value.ensures
