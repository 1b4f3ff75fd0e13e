-- Records put into the table one lot after the other.
use Rattle.std.proofs.Common.{◌≡◌, ℕ, zero, suc, ◌+◌, ◌-◌, ◌<◌, ◌≤◌, min, Bool, true, false, eqb, ◌≢◌, List, [], ◌∷◌, length, get_or, sym, refl, ap, ◌∙◌, inl, inr, arith, length-append, length-set, eq-eqb}
use Rattle.std.proofs.lemmas.Bool.Decides.{nat_tests}
use Rattle.std.proofs.lemmas.Bool.{cases_lt}
use Rattle.std.proofs.lemmas.List.{get_or_append_left, get_or-append_right, get_or-set_same, get_or-set_other}
use Rattle.text.specs.declared.reader.Reader.{Reader}
use Rattle.table.specs.declared.level.Level.{Level}
use Rattle.table.specs.declared.record.Record.{Record}
use Rattle.table.specs.declared.draft.Draft.{Draft}
use Rattle.table.specs.declared.tally.Tally.{Tally}
use Rattle.table.specs.declared.read.Reading.{Reading}
use Rattle.table.specs.Form.{Lot, ◌⊕◌, nothing, doing, closed, is_task, leaves, own_weight, default_weight}
use Rattle.table.specs.Works.{Filled, Fills, Reserved, ObjectClosed, stored, used_after, absent_if, most}

filled_nothing : (rs : List Record) (a : Tally) → Filled rs rs a a nothing
filled_nothing rs a = record { uses = omega arith; weighs = omega arith; long = refl; kept = λ k h d. refl; stands = λ k h. absurd (omega arith) }

filled_then : {t0 t1 t2 : List Record} {a b c : Tally} {o p : Lot} → Filled t0 t1 a b o → Filled t1 t2 b c p → Filled t0 t2 a c (o ⊕ p)
filled_then {t0} {t1} {t2} {a} {b} {c} {o} {p} f g = record {
  uses = let e = length-append o.records p.records in omega (arith, f.uses, g.uses);
  weighs = omega (arith, f.weighs, g.weighs);
  long = g.long ∙ f.long;
  kept = λ k h d. g.kept k (omega (arith, f.uses)) d ∙ f.kept k h d;
  stands = λ k h l d. elim (cases_lt k (length o.records)) [
    | inl s ↦ g.kept (a.used + k) (omega (arith, f.uses)) d ∙ f.stands k s (omega (arith, g.long)) d ∙ sym (get_or_append_left o.records p.records d k s)
    | inr s ↦
        let e : a.used + k ≡ b.used + (k - length o.records) = omega (arith, f.uses) in
        let m = length-append o.records p.records in
        ap (λ j. get_or t2 j d) e ∙ g.stands (k - length o.records) (omega arith) (omega arith) d ∙ sym (get_or-append_right o.records p.records (length o.records) k d refl s)
  ];
}

-- the reading has come to another place of its text
abbrev pub moved : Reading → Reader → Reading
moved r x = record { reader = x; table = r.table; tally = r.tally }

pub fills_nothing : (r : Reading) (x : Reader) → Fills r (moved r x) nothing
fills_nothing r x = record { same = refl; filled = filled_nothing r.table.now r.tally }

pub fills_then : {r s u : Reading} {o p : Lot} → Fills r s o → Fills s u p → Fills r u (o ⊕ p)
fills_then f g = record { same = g.same ∙ f.same; filled = filled_then f.filled g.filled }

pub fills_after : (r : Reading) (x : Reader) {u : Reading} {o : Lot} → Fills (moved r x) u o → Fills r u o
fills_after r x f = record { same = f.same; filled = f.filled }

-- the default parts are weighed where none were read; a count that is full weighs the same either way
by_parts : (l : Level) (rs : List Record) (n m w : ℕ) → m ≤ most → n ≤ w → n ≡ min (m + length rs) most → min (w + absent_if (eqb n m) l) most ≡ min (w + default_weight l rs) most
by_parts l [] n m w h k e = let z : n ≡ m = omega arith in rw (eq-eqb n m z) refl
by_parts l (r ∷ rs) n m w h k e = elim (cases_lt m most) [
  | inl s ↦ let z : eqb n m ≡ false = grind (arith, nat_tests) in rw z refl
  | inr s ↦ omega arith
]

-- the records of a whole object, at the place that was reserved for it
module _ (t0 t1 : List Record) (outer reserved inner : Tally) (b : Lot) (own : Record) where
  kept_by : (s k : Bool) (t2 : List Record) → reserved.used ≡ min (outer.used + own_weight k) most → Filled t0 t1 reserved inner b → t2 ≡ stored s k t1 outer.used own → (j : ℕ) → j < outer.used → (d : Record) → get_or t2 j d ≡ get_or t0 j d
  kept_by true k t2 r f e j h d = ap (λ x. get_or x j d) e ∙ f.kept j (omega arith) d
  kept_by false true t2 r f e j h d = ap (λ x. get_or x j d) e ∙ f.kept j (omega arith) d
  kept_by false false t2 r f e j h d = let n : j ≢ outer.used = omega arith in ap (λ x. get_or x j d) e ∙ get_or-set_other t1 outer.used j own d n ∙ f.kept j (omega arith) d

  long_by : (s k : Bool) (t2 : List Record) → t2 ≡ stored s k t1 outer.used own → length t2 ≡ length t1
  long_by true k t2 e = ap length e
  long_by false true t2 e = ap length e
  long_by false false t2 e = ap length e ∙ length-set t1 outer.used own

  uses_by : (s k : Bool) → reserved.used ≡ min (outer.used + own_weight k) most → Filled t0 t1 reserved inner b → used_after s outer.used inner.used ≡ min (outer.used + length (leaves s k own b.records)) most
  uses_by true k r f = omega arith
  uses_by false true r f = omega (arith, f.uses)
  uses_by false false r f = omega (arith, f.uses)

  stands_by : (s k : Bool) (t2 : List Record) → reserved.used ≡ min (outer.used + own_weight k) most → Filled t0 t1 reserved inner b → t2 ≡ stored s k t1 outer.used own → (j : ℕ) → j < length (leaves s k own b.records) → outer.used + j < min (length t2) most → (d : Record) → get_or t2 (outer.used + j) d ≡ get_or (leaves s k own b.records) j d
  stands_by true k t2 r f e j h l d = absurd (omega arith)
  stands_by false true t2 r f e j h l d =
      let z : outer.used + j ≡ reserved.used + j = omega arith in
      let m : length t2 ≡ length t1 = ap length e in
      ap (λ x. get_or x (outer.used + j) d) e ∙ ap (λ i. get_or t1 i d) z ∙ f.stands j h (omega arith) d
  stands_by false false t2 r f e zero h l d =
      let m : length t2 ≡ length t1 = long_by false false t2 e in
      let z : outer.used + 0 ≡ outer.used = omega arith in
      let w : outer.used < length t1 = omega arith in
      ap (λ i. get_or t2 i d) z ∙ ap (λ x. get_or x outer.used d) e ∙ get_or-set_same t1 outer.used own d w
  stands_by false false t2 r f e (suc j) h l d =
      let m : length t2 ≡ length t1 = long_by false false t2 e in
      let n : outer.used + suc j ≢ outer.used = omega arith in
      let z : outer.used + suc j ≡ reserved.used + j = omega arith in
      ap (λ x. get_or x (outer.used + suc j) d) e ∙ get_or-set_other t1 outer.used (outer.used + suc j) own d n ∙ ap (λ i. get_or t1 i d) z ∙ f.stands j (omega arith) (omega arith) d

pub fills_close : (outer s u : Reading) (x y : Reader) (reserved : Tally) (b : Lot) (d : Draft) → Reserved d.level outer.tally reserved → Fills (record { reader = x; table = outer.table; tally = reserved }) s b → (c : ObjectClosed d outer.tally reserved.used (moved s y) u) → Fills outer u (closed (doing d b) c.own)
fills_close outer s u x y reserved b d v f c =
    let t0 = outer.table.now in let t1 = s.table.now in let t2 = u.table.now in
    let k = is_task d.level in
    record {
      same = c.same ∙ f.same;
      filled = record {
        uses = c.uses ∙ uses_by t0 t1 outer.tally reserved s.tally b c.own d.skipped k v.uses f.filled;
        weighs = let e = by_parts d.level b.records s.tally.used reserved.used s.tally.weight (omega arith) (omega arith) f.filled.uses in omega (arith, c.weighs, v.weighs, f.filled.weighs);
        long = long_by t0 t1 outer.tally reserved s.tally b c.own d.skipped k t2 c.puts ∙ f.filled.long;
        kept = kept_by t0 t1 outer.tally reserved s.tally b c.own d.skipped k t2 v.uses f.filled c.puts;
        stands = stands_by t0 t1 outer.tally reserved s.tally b c.own d.skipped k t2 v.uses f.filled c.puts;
      };
    }
