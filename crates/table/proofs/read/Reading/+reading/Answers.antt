use Rattle.std.proofs.Common.{◌≡◌, ℕ, ◌-◌, ◌<◌, ◌≤◌, true, false, ltb, ◌∷◌, length, sym, refl, ap, ◌∙◌, arith, rules}
use Rattle.std.proofs.lemmas.Bool.Decides.{nat_tests}
use Rattle.text.specs.Machine.{value, members, entries, begin_array, begin_object, end_array}
use Rattle.text.specs.Ahead.{kind_of}
use Rattle.table.specs.declared.level.Level.{Level}
use Rattle.table.specs.declared.fault.FormRule.TheVariants.{ArrayElsewhere, WrongKind, Repeated, TooMany}
use Rattle.table.specs.Levels.{limit}
use Rattle.table.specs.Drafts.{fresh, with_entries, with_unknown}
use Rattle.table.specs.Form.{nothing, doing, entries as among}
use Rattle.table.specs.Works.{ReadsParts, ReadsObject, at_members, at_array, at_entries}
use Rattle.table.proofs.Joining.{broken, plain, token, token_fails, same_fault, text_stops, stops_is, fails_now, starts_as, stops_as, on_stops}
use Rattle.table.proofs.Asides.{skipped}
use Rattle.table.proofs.Rules.{array_opens, not_array, entry_opens, too_many, not_object, entries_end, name_unknown, name_elsewhere, array_again, array_named, name_again, name_known}
use Rattle.table.proofs.Reading.{plain_parts, parts_none, parts_step, parts_then, parts_stops, on_parts, parts_after, parts_as, known_parts, object_entry, object_closed, next_first, entry_goes, entries_over, member_goes, members_over, same_text, name_read}
use Rattle.table.proofs.read.Reading.+reading.Goals as goal

pub array-returns-in_default : goal.array-returns-in_default
array-returns-in_default t c =
    let y = c.in_ok-token.token in
    record { place = refl; reads = λ x h q b. token_fails x (at_array c.args.part h b) (kind_of y.value) y.offset WrongKind y.offset c.in_ok-token.ensures.passed (λ ps. not_array x h b y.offset ps c.args.part y.value c.in_default.not-Array) }

pub array-returns-clause-reads : goal.array-returns-clause-reads
array-returns-clause-reads t c x h q =
    let i = c.in_ok-token.token.offset in
    let w = rw c.in-Array.is at c.in_ok-token.ensures in
    parts_after (λ k. k) (λ n. at_members (with_entries n h)) c.args.self.now c.entries.new.self c.entries.result
    (λ b. token (at_array c.args.part h b) (at_entries c.args.part 0 h b) begin_array i w.passed (λ ps. array_opens x h b i ps c.args.part))
    (c.entries.ensures.reads x h (same_text w.passed.same q))

pub entries-loop-self-init : goal.entries-loop-self-init
entries-loop-self-init t c = record { place = refl; bound = omega arith; reads = λ x h q. parts_none c.args.self.now }

pub entries-returns-in_err-entry-clause-reads : goal.entries-returns-in_err-entry-clause-reads
entries-returns-in_err-entry-clause-reads t c x h q = broken (ReadsParts x _ _ _ _ _ _) _ c.from_residual.ensures.1 (parts_stops (c.loop-self.invariant.reads x h q) (λ m. text_stops (c.in_err-entry.ensures.halted c.args.levels)))

pub entries-returns-in_err-entry-2-clause-reads : goal.entries-returns-in_err-entry-2-clause-reads
entries-returns-in_err-entry-2-clause-reads t c x h q =
    let lv = c.args.levels in
    let g = entry_goes _ _ _ _ c.if-branch.true c.in_ok-entry.ensures lv in
    let i = c.loop-self.invariant.reads x h q in
    broken (ReadsParts x _ _ _ _ _ _) _ c.from_residual-in_err-entry-2.ensures.1
    (parts_stops (parts_step i (λ m. plain (at_entries c.args.part c.loop-self.index h m) g))
    (λ m. on_stops (λ k. entries false lv ∷ k) (λ ps. ps) (c.in_err-entry-2.ensures.reads x h (same_text g.same (same_text (i.works nothing).same q)) m)))

pub entries-loop-self-smaller : goal.entries-loop-self-smaller
entries-loop-self-smaller t c =
    let g = entry_goes _ _ _ _ c.if-branch.true c.in_ok-entry.ensures 0 in
    let w = (c.in_ok-entry-2.ensures.reads _ (fresh c.args.part 0 0) refl).works nothing in
    let e : length c.entry-in-loop-self.new.self.reader.text.now ≡ length c.loop-self.self.reader.text.now = ap (λ y. length y.now) (w.same ∙ g.same) in
    let b : c.entry-in-loop-self.new.self.reader.at ≤ length c.entry-in-loop-self.new.self.reader.text.now = c.entry-in-loop-self.new.self.reader.within in
    omega (arith, g.forth, c.in_ok-entry-2.ensures.further.0)

pub entries-loop-self-preserved : goal.entries-loop-self-preserved
entries-loop-self-preserved t c =
    let lv = c.args.levels in
    let g = entry_goes _ _ _ _ c.if-branch.true c.in_ok-entry.ensures lv in
    record {
      place = search rules;
      bound = omega (arith, c.in_ok-entry-2.ensures.further.1);
      reads = λ x h q.
          let i = c.loop-self.invariant.reads x h q in
          let z = parts_then (parts_step i (λ m. plain (at_entries c.args.part c.loop-self.index h m) g)) (on_parts (λ k. entries false lv ∷ k) (c.in_ok-entry-2.ensures.reads x h (same_text g.same (same_text (i.works nothing).same q)))) in
          rw (next_first c.loop-self.index) z;
    }

pub entries-returns-clause-reads : goal.entries-returns-clause-reads
entries-returns-clause-reads t c x h q =
    let o = entries_over _ _ _ _ c.if-branch.false c.in_ok-entry.ensures in
    parts_step (c.loop-self.invariant.reads x h q) (λ m. token (at_entries c.args.part c.loop-self.index h m) (at_members (with_entries c.loop-self.index h) m) end_array o.0 (o.2 c.args.levels) (λ ps. entries_end x h m o.0 ps c.args.part c.loop-self.index))

full : (n m : ℕ) (l : Level) → m ≡ limit l → m ≤ n → ltb n (limit l) ≡ false
full n m l e h = rw (sym e) (grind (arith, nat_tests))

free : (n m : ℕ) (l : Level) → m ≡ limit l → n < m → ltb n (limit l) ≡ true
free n m l e h = rw (sym e) (grind (arith, nat_tests))

pub entry-returns-then-index-limit-clause-reads : goal.entry-returns-then-index-limit-clause-reads
entry-returns-then-index-limit-clause-reads t c x h q b =
    let y = c.in_ok-token.token in
    token_fails x (at_entries c.args.level c.args.index h b) (kind_of y.value) y.offset TooMany y.offset c.in_ok-token.ensures.passed (λ ps. too_many x h b y.offset ps c.args.level c.args.index y.value (full _ _ c.args.level c.limit.ensures.value c.if-index-limit.true))

pub entry-returns-in_default : goal.entry-returns-in_default
entry-returns-in_default t c =
    let y = c.in_ok-token.token in
    record {
      place = refl;
      further = tt;
      reads = λ x h q b. token_fails x (at_entries c.args.level c.args.index h b) (kind_of y.value) y.offset WrongKind y.offset c.in_ok-token.ensures.passed (λ ps. not_object x h b y.offset ps c.args.level c.args.index y.value (free _ _ c.args.level c.limit.ensures.value c.if-index-limit.false) c.in_default.not-Object);
    }

pub entry-returns-clause-reads : goal.entry-returns-clause-reads
entry-returns-clause-reads t c x h q =
    let i = c.in_ok-token.token.offset in
    let w = rw c.in-Object.is at c.in_ok-token.ensures in
    let lv = c.args.levels in let l = c.args.level in let n = c.args.index in
    object_entry (lv - 1) (at_members (fresh l n i) nothing) l n h c.args.self.now c.object.new.self c.object.result
    (λ b. token (at_entries l n h b) (λ ps. at_members (fresh l n i) nothing (among l n (doing h b) ∷ ps)) begin_object i w.passed (λ ps. entry_opens x h b i ps l n (free _ _ l c.limit.ensures.value c.if-index-limit.false)))
    (rw c.new.ensures at (c.object.ensures.reads x (same_text w.passed.same q)))

pub member-returns-in_default-clause-reads : goal.member-returns-in_default-clause-reads
member-returns-in_default-clause-reads t c x q =
    let h = c.args.draft.now in
    plain_parts c.args.self.now (λ b. starts_as (λ ps. name_unknown h b c.args.name.offset ps _ (sym c.known.ensures ∙ c.in_default.is)) (skipped (doing (with_unknown h) b) c.in_ok-value.ensures))

pub member-returns-in_err-note-clause-reads : goal.member-returns-in_err-note-clause-reads
member-returns-in_err-note-clause-reads t c x q =
    let n = c.in_err-note.ensures in
    let h = c.args.draft.now in let i = c.args.name.offset in
    broken (ReadsParts x _ _ _ _ _ _) _ c.from_residual-in_err-note.ensures.1
    (λ b. stops_is n.1 (fails_now x (λ k. value c.args.levels ∷ k) _ _ Repeated i (λ ps. name_again h b i ps _ _ (sym c.known.ensures ∙ c.in-Some.is) (search rules) n.0)))

pub member-returns-then-not-is_array-clause-reads : goal.member-returns-then-not-is_array-clause-reads
member-returns-then-not-is_array-clause-reads t c x q =
    let n = c.in_ok-note.ensures in
    let h = c.args.draft.now in let i = c.args.name.offset in
    known_parts x c.args.levels _ c.in-Some.key c.note.new.self c.known_member.new.draft c.args.self.now c.known_member.new.reader c.known_member.result (λ b ps. name_known h b i ps _ _ (sym c.known.ensures ∙ c.in-Some.is) c.note.new.self (search rules) n.0 n.1) (c.known_member.ensures.reads x q)

pub member-returns-in_err-part-clause-reads : goal.member-returns-in_err-part-clause-reads
member-returns-in_err-part-clause-reads t c x q =
    let h = c.args.draft.now in let i = c.args.name.offset in
    let p = c.in_err-part.ensures.ok_part in
    broken (ReadsParts x _ _ _ _ _ _) _ c.from_residual-in_err-part.ensures.1
    (λ b. stops_is (same_fault (rw p at c.in_err-part.ensures.value)) (fails_now x (λ k. value c.args.levels ∷ k) _ _ ArrayElsewhere i (λ ps. name_elsewhere h b i ps _ _ (sym c.known.ensures ∙ c.in-Some.is) (search rules) (sym c.part.ensures.value ∙ p))))

pub member-returns-in_err-note-2-clause-reads : goal.member-returns-in_err-note-2-clause-reads
member-returns-in_err-note-2-clause-reads t c x q =
    let n = c.in_err-note-2.ensures in
    let h = c.args.draft.now in let i = c.args.name.offset in
    broken (ReadsParts x _ _ _ _ _ _) _ c.from_residual-in_err-note-2.ensures.1
    (λ b. stops_is n.1 (fails_now x (λ k. value c.args.levels ∷ k) _ _ Repeated i (λ ps. array_again h b i ps _ _ (sym c.known.ensures ∙ c.in-Some.is) c.in_ok-part.part (search rules) (sym c.part.ensures.value ∙ c.in_ok-part.ensures.ok_part) n.0)))

pub member-returns-in_err-draft-clause-reads : goal.member-returns-in_err-draft-clause-reads
member-returns-in_err-draft-clause-reads t c x q =
    let n = c.in_ok-note-2.ensures in
    let h = c.args.draft.now in let i = c.args.name.offset in
    broken (ReadsParts x _ _ _ _ _ _) _ c.from_residual-in_err-draft.ensures.1
    (λ b. stops_as (λ ps. array_named h b i ps _ _ (sym c.known.ensures ∙ c.in-Some.is) c.in_ok-part.part c.note-2.new.self (search rules) (sym c.part.ensures.value ∙ c.in_ok-part.ensures.ok_part) n.0 n.1) (c.in_err-draft.ensures.reads x c.note-2.new.self q b))

pub member-returns-clause-reads : goal.member-returns-clause-reads
member-returns-clause-reads t c x q =
    let n = c.in_ok-note-2.ensures in
    let h = c.args.draft.now in let i = c.args.name.offset in
    parts_as (λ b ps. array_named h b i ps _ _ (sym c.known.ensures ∙ c.in-Some.is) c.in_ok-part.part c.note-2.new.self (search rules) (sym c.part.ensures.value ∙ c.in_ok-part.ensures.ok_part) n.0 n.1) (c.in_ok-draft.ensures.reads x c.note-2.new.self q)

pub members-loop-name-init : goal.members-loop-name-init
members-loop-name-init t c = record { place = refl; level = refl; reads = λ x q. parts_none _ }

pub members-returns-in_err-name-clause-reads : goal.members-returns-in_err-name-clause-reads
members-returns-in_err-name-clause-reads t c x q = broken (ReadsObject x _ _ _ _) _ c.from_residual.ensures.1 (parts_stops (c.loop-name.invariant.reads x q) (λ m. text_stops (c.in_err-name.ensures.halted c.args.levels)) nothing)

pub members-returns-in_err-member-in-Named-clause-reads : goal.members-returns-in_err-member-in-Named-clause-reads
members-returns-in_err-member-in-Named-clause-reads t c x q =
    let lv = c.args.levels in
    let n = member_goes _ _ _ _ _ c.in-Named.is c.in_ok-name.ensures in
    let z = c.loop-name.invariant.reads x q in
    let e = same_text (z.works nothing).same q in
    broken (ReadsObject x _ _ _ _) _ c.from_residual-in_err-member-in-Named.ensures.1
    (parts_stops (parts_step z (name_read lv c.loop-name.draft e n))
    (λ m. on_stops (λ k. members false lv ∷ k) (λ ps. ps) (c.in_err-member-in-Named.ensures.reads x (same_text (n.passed lv).same e) m)) nothing)

pub members-close-requires : goal.members-close-requires
members-close-requires t c =
    let f = (c.loop-name.invariant.reads _ refl).fills.filled in
    omega (arith, f.uses, c.with_object-reserved.ensures.uses)

pub members-returns-in-End-clause-reads : goal.members-returns-in-End-clause-reads
members-returns-in-End-clause-reads t c x q =
    let lv = c.args.levels in
    let o = members_over _ _ _ _ _ c.in-End.is c.in_ok-name.ensures in
    object_closed x lv c.loop-name.first c.args.draft c.loop-name.draft c.args.self.now c.loop-name.self c.close.new.self c.member.new.self c.with_object-reserved.result c.in-End.brace c.close.result
    c.with_object-reserved.ensures (c.loop-name.invariant.reads x q) (o.1 lv) c.loop-name.invariant.level c.close.ensures

pub members-loop-name-smaller : goal.members-loop-name-smaller
members-loop-name-smaller t c =
    let n = member_goes _ _ _ _ _ c.in-Named.is c.in_ok-name.ensures in
    let w = (c.in_ok-member-in-Named.ensures.reads _ refl).works nothing in
    let e : length c.member-in-Named.new.self.reader.text.now ≡ length c.loop-name.self.reader.text.now = ap (λ y. length y.now) (w.same ∙ (n.passed 0).same) in
    let b : c.member-in-Named.new.self.reader.at ≤ length c.member-in-Named.new.self.reader.text.now = c.member-in-Named.new.self.reader.within in
    omega (arith, w.forth, n.moves)

pub members-loop-name-preserved : goal.members-loop-name-preserved
members-loop-name-preserved t c =
    let lv = c.args.levels in
    let n = member_goes _ _ _ _ _ c.in-Named.is c.in_ok-name.ensures in
    record {
      place = search rules;
      level = search rules;
      reads = λ x q.
          let z = c.loop-name.invariant.reads x q in
          let e = same_text (z.works nothing).same q in
          parts_then (parts_step z (name_read lv c.loop-name.draft e n)) (on_parts (λ k. members false lv ∷ k) (c.in_ok-member-in-Named.ensures.reads x (same_text (n.passed lv).same e)));
    }
