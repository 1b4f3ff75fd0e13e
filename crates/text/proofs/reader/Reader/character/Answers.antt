use Rattle.std.proofs.Common.{is_some, ap, refl, arith}
use Rattle.std.proofs.lemmas.Bool.Decides.{nat_tests}
use Rattle.text.specs.Machine.{step, over}
use Rattle.text.proofs.Steps.{told, one, then, then_reads}
use Rattle.text.proofs.reader.Reader.character.Goals as goal
use Rattle.text.proofs.reader.Reader.character.Goals.{in_default-via-in-Some+in_default+then-this-lt32, in_default-via-in-Some+in_default+else-this-lt32+else-this-lt128, in_default-via-in_default}

pub returns-in-Some-eq92-clause-reads : goal.returns-in-Some-eq92-clause-reads
unfolding step
returns-in-Some-eq92-clause-reads c = let p = c.in-Some-eq92.ensures in then_reads _ _ _ (one p.0 refl refl (λ k. grind (arith, nat_tests))) c.escape.ensures

pub returns-in-Some-32-to-127-clause-reads : goal.returns-in-Some-32-to-127-clause-reads
unfolding step
returns-in-Some-32-to-127-clause-reads c = let p = c.in-Some-32-to-127.ensures in then (one p.0 refl refl (λ k. let r = c.requires p.0 in grind (arith, nat_tests, r))) c.plain.ensures

pub returns-in-Some-32-to-127-clause-further : goal.returns-in-Some-32-to-127-clause-further
returns-in-Some-32-to-127-clause-further c = let j = c.plain.ensures.forth in omega arith

pub returns-in_default-clause-reads : goal.returns-in_default-clause-reads
unfolding step over
returns-in_default-clause-reads c = c.wide.ensures.reads _ (record {
  byte = λ i k. let r = c.requires i in elim c.in_default.branch [
    | in_default-via-in-Some+in_default+then-this-lt32 w ↦ grind (arith, nat_tests, r)
    | in_default-via-in-Some+in_default+else-this-lt32+else-this-lt128 w ↦ grind (arith, nat_tests, r)
    | in_default-via-in_default w ↦ absurd (told c.args.self.now _ c.peek.ensures (ap is_some w.in_default.is) i)
  ];
  end = λ k. refl;
})
