-- What a member that breaks no rule leaves of its object: the level as it was, and the members that came marked.
use Rattle.std.proofs.Common.{◌≡◌, ◌≢◌, ◌⊎◌, ℕ, Bool, true, false, List, length, Some, None, Option, inl, inr, refl, sym, ap, ◌∙◌, arith, ◌==◌}
use Rattle.std.proofs.lemmas.Bool.Decides.{nat_tests}
use Rattle.std.proofs.lemmas.List.{get_or-set_same, get_or-set_other, length-set}
use Rattle.std.proofs.lemmas.Option.{same_Some}
use Rattle.text.specs.Tree.{Json, Members, no_member, one_member}
use Rattle.table.specs.declared.keys.Key.{Key}
use Rattle.table.specs.declared.level.Level.{Level}
use Rattle.table.specs.declared.draft.Draft.{Draft}
use Rattle.table.specs.Levels.{key_code, is_array_name, known}
use Rattle.table.specs.Drafts.{seen_before, noted}
use Rattle.table.specs.Form.{Doing}
use Rattle.table.specs.Members.{key_of}
use Rattle.table.specs.Rules.{Belongs}
use Rattle.table.proofs.Values.{Read, fine, same_fine, then_fine, member_of, members_read, array_read}
use Rattle.table.proofs.Naming.{same_key, key_small, part_array}
use Rattle.table.proofs.Drafting.{Does, aside, lists, remarks, for_vendor, excepts, says, array_name, word_name, member_does}

belongs_known : (l : Level) (key : Key) → Belongs l key → known l (Some key) ≡ Some key
belongs_known l key (inl b) = rw (part_array l b.0 key b.1) refl
belongs_known l key (inr b) = go (is_array_name key) refl
  where
    go : (a : Bool) → is_array_name key ≡ a → known l (Some key) ≡ Some key
    go true e = rw e refl
    go false e = rw (e, b) refl

same_or_other : (a b : ℕ) → (a ≡ b) ⊎ (a ≢ b)
same_or_other a b = go (a == b) refl
  where
    go : (c : Bool) → (a == b) ≡ c → (a ≡ b) ⊎ (a ≢ b)
    go true e = inl (grind (arith, nat_tests))
    go false e = inr (λ p. let q : (a == b) ≡ true = grind (arith, nat_tests) in cc)

-- the marks of the members that came
marked : (key other : Key) (d : Draft) → seen_before other (noted key d) ≡ true → (seen_before other d ≡ true) ⊎ (key ≡ other)
marked key other d e = go (same_or_other (key_code other) (key_code key))
  where
    go : (key_code other ≡ key_code key) ⊎ (key_code other ≢ key_code key) → (seen_before other d ≡ true) ⊎ (key ≡ other)
    go (inl p) = inr (sym (same_key other key p))
    go (inr n) = inl (sym (get_or-set_other d.seen (key_code key) (key_code other) true false n) ∙ e)

mark_stays : (key other : Key) (d : Draft) → length d.seen ≡ 15 → (seen_before other d ≡ true) ⊎ (key ≡ other) → seen_before other (noted key d) ≡ true
mark_stays key other d n h = go (same_or_other (key_code other) (key_code key)) h
  where
    go : (key_code other ≡ key_code key) ⊎ (key_code other ≢ key_code key) → (seen_before other d ≡ true) ⊎ (key ≡ other) → seen_before other (noted key d) ≡ true
    go (inl p) h = rw p (get_or-set_same d.seen (key_code key) true false (let s = key_small key in omega arith))
    go (inr n) (inl e) = get_or-set_other d.seen (key_code key) (key_code other) true false n ∙ e
    go (inr n) (inr e) = absurd (n (ap key_code (sym e)))

-- what a member that breaks no rule leaves
pub record Kept (o : Option Key) (d e : Draft) : Type 0 where
  pub level : e.level ≡ d.level
  pub long : length e.seen ≡ length d.seen
  pub before : (key : Key) → seen_before key e ≡ true → (seen_before key d ≡ true) ⊎ (o ≡ Some key)
  pub stays : length d.seen ≡ 15 → (key : Key) → (seen_before key d ≡ true) ⊎ ((o ≡ Some key) × Belongs d.level key) → seen_before key e ≡ true

kept_unknown : (o : Option Key) (d e : Draft) → known d.level o ≡ None → e.level ≡ d.level → e.seen ≡ d.seen → Kept o d e
kept_unknown o d e z l s = record {
  level = l;
  long = ap (λ xs. length xs) s;
  before = λ key h. inl (rw s at h);
  stays = λ n key h. rw s (go key h);
}
  where
    go : (key : Key) → (seen_before key d ≡ true) ⊎ ((o ≡ Some key) × Belongs d.level key) → seen_before key d ≡ true
    go key (inl h) = h
    go key (inr h) = absurd (let b = belongs_known d.level key h.1 in let c : known d.level (Some key) ≡ None = rw (h.0) at z in cc)

kept_known : (key : Key) (d e : Draft) → e.level ≡ d.level → e.seen ≡ (noted key d).seen → Kept (Some key) d e
kept_known key d e l s = record {
  level = l;
  long = ap (λ xs. length xs) s ∙ length-set d.seen (key_code key) true;
  before = λ other h. before other (marked key other d (rw s at h));
  stays = λ n other h. rw s (mark_stays key other d n (stays other h));
}
  where
    before : (other : Key) → (seen_before other d ≡ true) ⊎ (key ≡ other) → (seen_before other d ≡ true) ⊎ (Some key ≡ Some other)
    before other (inl h) = inl h
    before other (inr h) = inr (ap (λ x. Some x) h)

    stays : (other : Key) → (seen_before other d ≡ true) ⊎ ((Some key ≡ Some other) × Belongs d.level other) → (seen_before other d ≡ true) ⊎ (key ≡ other)
    stays other (inl h) = inl h
    stays other (inr h) = inr (same_Some _ _ h.0)

does_keeps : (t : List ℕ) (v : Json) (d e : Doing) (o : Option Key) → Does t d.draft.level v d o e → Kept o d.draft e.draft
does_keeps t v d e o (aside z) = kept_unknown o d.draft e.draft z refl refl
does_keeps t v d e o (lists c s a z) = kept_known (array_name d.draft.level) d.draft e.draft refl refl
does_keeps t v d e o (remarks {key = key} z c) = kept_known key d.draft e.draft refl refl
does_keeps t v d e o (for_vendor c) = kept_known Key.Vendor d.draft e.draft refl refl
does_keeps t v d e o (excepts z c) = kept_known Key.Exception d.draft e.draft refl refl
does_keeps t v d e o (says c) = kept_known (word_name d.draft.level) d.draft e.draft refl refl

pub member_keeps : (t : List ℕ) (k : ℕ) (v : Json) (d e : Doing) (o : Option Key) → member_of o t k v d (λ p x. array_read t v p x) ≡ fine e → Kept o d.draft e.draft
member_keeps t k v d e o z = does_keeps t v d e o (member_does t d.draft.level v d k o e refl z)

pub members_level : (ms : Members) (t : List ℕ) (d e : Doing) → members_read t ms d ≡ fine e → e.draft.level ≡ d.draft.level
unfolding members_read
members_level no_member t d e z = ap (λ x. x.draft.level) (sym (same_fine z))
members_level (one_member k v ms) t d e z =
    let f : Level → Doing → Read Doing = λ p x. array_read t v p x in
    let b = then_fine (λ x. members_read t ms x) (member_of (key_of t k) t k v d f) e z in
    members_level ms t b.0 e b.2 ∙ (member_keeps t k v d b.0 (key_of t k) b.1).level
