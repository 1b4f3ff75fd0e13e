use Rattle.std.proofs.Common.{◌≡◌, ℕ, ◌+◌, ◌-◌, ◌<◌, ◌≤◌, Bool, true, false, List, ◌∷◌, length, Ok, sym, refl, ap, ◌∙◌, arith, Bor}
use Rattle.text.specs.declared.reader.Reader.{Reader}
use Rattle.text.specs.declared.token.Token.{Token}
use Rattle.text.specs.declared.token.Token.TheVariants.{Object, Array, String, Number, True, False, Null}
use Rattle.text.specs.declared.token.Member.{Member}
use Rattle.text.specs.declared.token.Member.TheVariants.{Named, End}
use Rattle.text.specs.declared.token.Placed.{Placed}
use Rattle.text.specs.Machine.{Tape, value, members, entries, event, end_object, end_array, name, string, number, literal_true, literal_false, literal_null}
use Rattle.text.specs.Tree.{Members, Entries, scalar, object, array, no_member, no_entry, events, member_events, entry_events, Proper, ProperMembers, ProperEntries}
use Rattle.text.specs.Ahead.{Stack, Passed, Onward, TokenRead, ValueRead, MembersRead, ReadsMembers, EntriesRead, ReadsEntries, NameRead, ReadsMember, ReadsEntry}
use Rattle.text.proofs.Steps.{stay, then_passed, passed_halted, broken, on, on_halted}
use Rattle.text.proofs.Extents.{value_end}
use Rattle.text.proofs.Frames.{same_ending, same_ending_members, same_ending_entries, add_member, add_member_events, add_member_proper, add_entry, add_entry_events, add_entry_proper}
use Rattle.text.proofs.reader.Reader.+array_object_value.Goals as goal
use Rattle.text.proofs.reader.Reader.+array_object_value.Goals.{value-in-Object+in_ok-object-in-Object, value-in-Array+in_ok-array-in-Array, value-in_default}

entry_goes : (f : Bool) (r s : Reader) (b : Bool) → b ≡ true → ReadsEntry f r s (Ok b) → (d : ℕ) → Onward (λ k. entries f d ∷ k) (λ k. value d ∷ entries false d ∷ k) r s
entry_goes f r s b e p = let q : ReadsEntry f r s (Ok true) = rw e at p in q.1

entries_over : (f : Bool) (r s : Reader) (b : Bool) → b ≡ false → ReadsEntry f r s (Ok b) → (j : ℕ) × (s.at ≡ j + 1) × ((d : ℕ) → Passed (λ k. entries f d ∷ k) (λ k. k) (event end_array j) r s)
entries_over f r s b e p = rw e at p

member_goes : (f : Bool) (r s : Reader) (o : Member) (x : Placed (Bor (List ℕ))) → o ≡ Named x → ReadsMember f r s (Ok o) → NameRead (λ d k. members f d ∷ k) r s x.value.now x.offset
member_goes f r s o x e p = rw e at p

members_over : (f : Bool) (r s : Reader) (o : Member) (j : ℕ) → o ≡ End j → ReadsMember f r s (Ok o) → (s.at ≡ j + 1) × ((d : ℕ) → Passed (λ k. members f d ∷ k) (λ k. k) (event end_object j) r s)
members_over f r s o j e p = rw e at p

-- what is left of the text gets less with each value
nearer : {f g : Stack} {d i : ℕ} {x : Token} {a : Tape → Tape} {r s u : Reader} → Passed f g a r s → ValueRead d s u x i → length u.text.now - u.at < length r.text.now - r.at
nearer {r = r} {s = s} {u = u} p w =
    let e : length u.text.now ≡ length r.text.now = ap (λ x. length x.now) (w.passed.same ∙ p.same) in
    let b : u.at ≤ length u.text.now = u.within in
    omega (arith, p.forth, w.moves)

-- one entry more
entry_more : {d i : ℕ} {x : Token} {f : Stack} {g : Bool} {r s u v : Reader} (vs : Entries) (w : ValueRead d u v x i) → Passed f (λ k. entries g d ∷ k) (entry_events vs) r s → Onward (λ k. entries g d ∷ k) (λ k. value d ∷ entries false d ∷ k) s u → Passed f (λ k. entries false d ∷ k) (entry_events (add_entry vs w.what)) r v
entry_more {d} vs w p q =
    let t = then_passed p (then_passed q (on (λ k. entries false d ∷ k) w.passed)) in
    record { same = t.same; forth = t.forth; runs = λ k. t.runs k ∙ sym (add_entry_events vs w.what _) }

-- one member more
member_more : {d j : ℕ} {x : Token} {f : Stack} {g : Bool} {r s u v : Reader} (ms : Members) (i : ℕ) (w : ValueRead d u v x j) → Passed f (λ k. members g d ∷ k) (member_events ms) r s → Passed (λ k. members g d ∷ k) (λ k. value d ∷ members false d ∷ k) (event name i) s u → Passed f (λ k. members false d ∷ k) (member_events (add_member ms i w.what)) r v
member_more {d} ms i w p q =
    let t = then_passed p (then_passed q (on (λ k. members false d ∷ k) w.passed)) in
    record { same = t.same; forth = t.forth; runs = λ k. t.runs k ∙ sym (add_member_events ms i w.what _) }

pub array-loop-self-init : goal.array-loop-self-init
unfolding entry_events ProperEntries
array-loop-self-init t c = (no_entry, stay, tt)

pub array-returns-in_err-entry : goal.array-returns-in_err-entry
array-returns-in_err-entry t c = broken (ReadsEntries _ _ _) _ c.from_residual.ensures.1 (passed_halted (same_ending_entries c.loop-self.invariant.0) c.loop-self.invariant.1 (c.in_err-entry.ensures.halted c.args.levels))

pub array-returns-in_err-value : goal.array-returns-in_err-value
array-returns-in_err-value t c = broken (ReadsEntries _ _ _) _ c.from_residual-in_err-value.ensures.1 (passed_halted (same_ending_entries c.loop-self.invariant.0) (then_passed c.loop-self.invariant.1 (entry_goes _ _ _ _ c.if-branch.true c.in_ok-entry.ensures c.args.levels)) (on_halted (λ k. entries false c.args.levels ∷ k) c.in_err-value.ensures))

pub array-loop-self-smaller : goal.array-loop-self-smaller
array-loop-self-smaller t c = nearer (entry_goes _ _ _ _ c.if-branch.true c.in_ok-entry.ensures c.args.levels) c.in_ok-value.ensures

pub array-loop-self-preserved : goal.array-loop-self-preserved
array-loop-self-preserved t c = (_, entry_more c.loop-self.invariant.0 c.in_ok-value.ensures c.loop-self.invariant.1 (entry_goes _ _ _ _ c.if-branch.true c.in_ok-entry.ensures c.args.levels), add_entry_proper c.loop-self.invariant.0 _ c.loop-self.invariant.2 c.in_ok-value.ensures.proper)

pub array-returns : goal.array-returns
array-returns t c =
    let o = entries_over _ _ _ _ c.if-branch.false c.in_ok-entry.ensures in
    record { what = c.loop-self.invariant.0; proper = c.loop-self.invariant.2; last = o.0; to = o.1; passed = then_passed c.loop-self.invariant.1 (o.2 c.args.levels) }

pub object-loop-self-init : goal.object-loop-self-init
unfolding member_events ProperMembers
object-loop-self-init t c = (no_member, stay, tt)

pub object-returns-in_err-member : goal.object-returns-in_err-member
object-returns-in_err-member t c = broken (ReadsMembers _ _ _) _ c.from_residual.ensures.1 (passed_halted (same_ending_members c.loop-self.invariant.0) c.loop-self.invariant.1 (c.in_err-member.ensures.halted c.args.levels))

pub object-returns-in_err-value : goal.object-returns-in_err-value
object-returns-in_err-value t c =
    let n = member_goes _ _ _ _ _ c.in-Named.is c.in_ok-member.ensures in
    broken (ReadsMembers _ _ _) _ c.from_residual-in_err-value.ensures.1 (passed_halted (λ u. same_ending_members c.loop-self.invariant.0 (event name _ u)) (then_passed c.loop-self.invariant.1 (n.passed c.args.levels)) (on_halted (λ k. members false c.args.levels ∷ k) c.in_err-value.ensures))

pub object-loop-self-smaller : goal.object-loop-self-smaller
object-loop-self-smaller t c = nearer ((member_goes _ _ _ _ _ c.in-Named.is c.in_ok-member.ensures).passed c.args.levels) c.in_ok-value.ensures

pub object-loop-self-preserved : goal.object-loop-self-preserved
object-loop-self-preserved t c = (_, member_more c.loop-self.invariant.0 _ c.in_ok-value.ensures c.loop-self.invariant.1 ((member_goes _ _ _ _ _ c.in-Named.is c.in_ok-member.ensures).passed c.args.levels), add_member_proper c.loop-self.invariant.0 _ _ c.loop-self.invariant.2 c.in_ok-value.ensures.proper)

pub object-returns : goal.object-returns
object-returns t c =
    let o = members_over _ _ _ _ _ c.in_default.is c.in_ok-member.ensures in
    record { what = c.loop-self.invariant.0; proper = c.loop-self.invariant.2; last = c.in_default.field-0; to = o.0; passed = then_passed c.loop-self.invariant.1 (o.1 c.args.levels) }

object_whole : (d : ℕ) (r s u : Reader) (i : ℕ) → TokenRead d r s Object i → MembersRead (d - 1) s u → ValueRead d r u Object i
unfolding events Proper
object_whole d r s u i p q = record { from = p.from; moves = omega (arith, p.moves, q.passed.forth); what = object i q.what q.last; proper = q.proper; starts = (refl, refl); to = value_end d (same_ending (object i q.what q.last)) (then_passed p.passed q.passed); holds = tt; passed = then_passed p.passed q.passed; ends = same_ending (object i q.what q.last) }

array_whole : (d : ℕ) (r s u : Reader) (i : ℕ) → TokenRead d r s Array i → EntriesRead (d - 1) s u → ValueRead d r u Array i
unfolding events Proper
array_whole d r s u i p q = record { from = p.from; moves = omega (arith, p.moves, q.passed.forth); what = array i q.what q.last; proper = q.proper; starts = (refl, refl); to = value_end d (same_ending (array i q.what q.last)) (then_passed p.passed q.passed); holds = tt; passed = then_passed p.passed q.passed; ends = same_ending (array i q.what q.last) }

object_value : (d : ℕ) (r s u : Reader) (x : Token) (i : ℕ) → x ≡ Object → TokenRead d r s x i → MembersRead (d - 1) s u → ValueRead d r u x i
object_value d r s u x i e p q = let o : TokenRead d r s Object i = rw e at p in rw e (object_whole d r s u i o q)

array_value : (d : ℕ) (r s u : Reader) (x : Token) (i : ℕ) → x ≡ Array → TokenRead d r s x i → EntriesRead (d - 1) s u → ValueRead d r u x i
array_value d r s u x i e p q = let o : TokenRead d r s Array i = rw e at p in rw e (array_whole d r s u i o q)

scalar_value : (d : ℕ) (r s : Reader) (x : Token) (i : ℕ) → (x ≡ Object → ⊥) → (x ≡ Array → ⊥) → TokenRead d r s x i → ValueRead d r s x i
unfolding events Proper
scalar_value d r s Object i n m p = absurd (n refl)
scalar_value d r s Array i n m p = absurd (m refl)
scalar_value d r s (String y) i n m p = record { from = p.from; moves = p.moves; what = scalar string i; proper = tt; starts = (refl, refl); to = value_end d (λ _. refl) p.passed; holds = p.token.holds; passed = p.passed; ends = λ t. refl }
scalar_value d r s (Number y) i n m p = record { from = p.from; moves = p.moves; what = scalar number i; proper = tt; starts = (refl, refl); to = value_end d (λ _. refl) p.passed; holds = p.token.holds; passed = p.passed; ends = λ t. refl }
scalar_value d r s True i n m p = record { from = p.from; moves = p.moves; what = scalar literal_true i; proper = tt; starts = (refl, refl); to = value_end d (λ _. refl) p.passed; holds = tt; passed = p.passed; ends = λ t. refl }
scalar_value d r s False i n m p = record { from = p.from; moves = p.moves; what = scalar literal_false i; proper = tt; starts = (refl, refl); to = value_end d (λ _. refl) p.passed; holds = tt; passed = p.passed; ends = λ t. refl }
scalar_value d r s Null i n m p = record { from = p.from; moves = p.moves; what = scalar literal_null i; proper = tt; starts = (refl, refl); to = value_end d (λ _. refl) p.passed; holds = tt; passed = p.passed; ends = λ t. refl }

pub value-returns : goal.value-returns
value-returns t c = elim c.match-token.branch [
  | value-in-Object+in_ok-object-in-Object w ↦ rw w.self-is (object_value _ _ _ _ _ _ w.in-Object.is c.in_ok-token.ensures w.in_ok-object-in-Object.ensures)
  | value-in-Array+in_ok-array-in-Array w ↦ rw w.self-is (array_value _ _ _ _ _ _ w.in-Array.is c.in_ok-token.ensures w.in_ok-array-in-Array.ensures)
  | value-in_default w ↦ rw w.self-is (scalar_value _ _ _ _ _ w.in_default.not-Object w.in_default.not-Array c.in_ok-token.ensures)
]
