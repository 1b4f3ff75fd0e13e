-- A rule that a part of a value breaks is broken at an offset inside that part.
use Rattle.std.proofs.Common.{◌≡◌, ◌⊎◌, ℕ, suc, ◌+◌, ◌<◌, ◌≤◌, Bool, true, false, ltb, List, Some, None, Option, inl, inr, sym, arith}
use Rattle.text.specs.Tree.{Json, Members, Entries, scalar, object, array, no_member, one_member, no_entry, one_entry}
use Rattle.text.specs.Value.{InOrder, MembersInOrder, EntriesInOrder}
use Rattle.table.specs.declared.keys.Key.{Key}
use Rattle.table.specs.declared.level.Level.{Level}
use Rattle.table.specs.declared.record.Record.{Record}
use Rattle.table.specs.declared.fault.FormRule.{FormRule}
use Rattle.table.specs.declared.fault.FormRule.TheVariants.{WrongKind}
use Rattle.table.specs.Levels.{limit}
use Rattle.table.specs.Drafts.{record_of}
use Rattle.table.specs.Form.{Lot, ◌⊕◌, Doing, doing, begun}
use Rattle.table.specs.Members.{starts, key_of}
use Rattle.table.proofs.Values.{Read, same_broke, then_broke, fine, broke, then, ended, in_limit, member_of, members_read, array_read, entries_read, entry_read}
use Rattle.table.proofs.Taking.{Refused, elsewhere, array_again, plain_again, in_parts, no_string, not_taken, member_refused}

mutual
  unfolding InOrder MembersInOrder EntriesInOrder

  pub value_rises : (v : Json) (a b : ℕ) → InOrder a v b → (a ≤ starts v) × (starts v < b)
  value_rises (scalar x i) a b o = o
  value_rises (object i ms j) a b o = let m = members_rise ms (suc i) j o.1 in (o.0, let p = o.2 in omega arith)
  value_rises (array i vs j) a b o = let m = entries_rise vs (suc i) j o.1 in (o.0, let p = o.2 in omega arith)

  pub members_rise : (ms : Members) (a b : ℕ) → MembersInOrder a ms b → a ≤ b
  members_rise no_member a b o = o
  members_rise (one_member i v ms) a b o =
      let p = o.0 in
      let q = value_rises v (suc i) o.1.0 o.1.1 in
      let r = members_rise ms o.1.0 b o.1.2 in
      let x = q.0 in
      let y = q.1 in
      omega arith

  pub entries_rise : (vs : Entries) (a b : ℕ) → EntriesInOrder a vs b → a ≤ b
  entries_rise no_entry a b o = o
  entries_rise (one_entry v vs) a b o =
      let q = value_rises v a o.0 o.1 in
      let r = entries_rise vs o.0 b o.2 in
      let x = q.0 in
      let y = q.1 in
      omega arith

-- from a on, and before b
abbrev pub Inside : ℕ → ℕ → ℕ → Type 0
Inside a b i = (a ≤ i) × (i < b)

wider : {a b c d i : ℕ} → c ≤ a → b ≤ d → Inside a b i → Inside c d i
wider p q h = let x = h.0 in let y = h.1 in (omega arith, omega arith)

-- of a member, where its value as an array is inside
refused_inside : (t : List ℕ) (k : ℕ) (v : Json) (d : Doing) (f : Level → Doing → Read Doing) (o : Option Key) (rule : FormRule) (i c : ℕ) → InOrder (suc k) v c → ((p : Level) (e : Doing) → f p e ≡ broke rule i → Inside (suc k) c i) → Refused t k v d f o rule i → Inside k c i
refused_inside t k v d f o rule i c n h (elsewhere a b) = let q = value_rises v (suc k) c n in let x = q.0 in let y = q.1 in (omega arith, omega arith)
refused_inside t k v d f o rule i c n h (array_again a b) = let q = value_rises v (suc k) c n in let x = q.0 in let y = q.1 in (omega arith, omega arith)
refused_inside t k v d f o rule i c n h (plain_again a b) = let q = value_rises v (suc k) c n in let x = q.0 in let y = q.1 in (omega arith, omega arith)
refused_inside t k v d f o rule i c n h (in_parts {p = p} a b) = let q = h p _ b in let x = q.0 in let y = q.1 in (omega arith, omega arith)
refused_inside t k v d f o rule i c n h (no_string a b e) = let q = value_rises v (suc k) c n in let x = q.0 in let y = q.1 in (omega arith, omega arith)
refused_inside t k v d f o rule i c n h (not_taken a b e) = let q = value_rises v (suc k) c n in let x = q.0 in let y = q.1 in (omega arith, omega arith)

ended_inside : (o : Option Record) (d : Doing) (j : ℕ) (rule : FormRule) (i : ℕ) → ended o d j ≡ broke rule i → i ≡ j
ended_inside None d j rule i z = sym (same_broke z).1
ended_inside (Some r) d j rule i z = absurd (cc)

limit_inside : {X : Type 0} (b : Bool) (at : ℕ) (r : Read X) (rule : FormRule) (i : ℕ) → in_limit b at r ≡ broke rule i → (i ≡ at) ⊎ (r ≡ broke rule i)
limit_inside true at r rule i z = inr z
limit_inside false at r rule i z = inl (sym (same_broke z).1)

-- an entry that is no object
limit_start : (b : Bool) (at : ℕ) (rule : FormRule) (i : ℕ) → ◌≡◌ {A = Read Lot} (in_limit b at (broke WrongKind at)) (broke rule i) → i ≡ at
limit_start b at rule i z = go (limit_inside b at (broke WrongKind at) rule i z)
  where
    go : (i ≡ at) ⊎ (◌≡◌ {A = Read Lot} (broke WrongKind at) (broke rule i)) → i ≡ at
    go (inl e) = e
    go (inr e) = sym (same_broke e).1

at_start : (at a b i : ℕ) → a ≤ at → at < b → i ≡ at → Inside a b i
at_start at a b i p q e = (omega arith, omega arith)

-- an object: at its brace, among its members, or at its end
limit_object : (b : Bool) (at j : ℕ) (r : Read Doing) (rule : FormRule) (i : ℕ) → in_limit b at (then r (λ d. ended (record_of d.draft) d j)) ≡ broke rule i → (i ≡ at) ⊎ ((r ≡ broke rule i) ⊎ (i ≡ j))
limit_object b at j r rule i z = go (limit_inside b at _ rule i z)
  where
    on : (r ≡ broke rule i) ⊎ ((d : Doing) × (r ≡ fine d) × (ended (record_of d.draft) d j ≡ broke rule i)) → (i ≡ at) ⊎ ((r ≡ broke rule i) ⊎ (i ≡ j))
    on (inl e) = inr (inl e)
    on (inr e) = inr (inr (ended_inside (record_of e.0.draft) e.0 j rule i e.2))

    go : (i ≡ at) ⊎ (then r (λ d. ended (record_of d.draft) d j) ≡ broke rule i) → (i ≡ at) ⊎ ((r ≡ broke rule i) ⊎ (i ≡ j))
    go (inl e) = inl e
    go (inr e) = on (then_broke (λ d. ended (record_of d.draft) d j) r rule i e)

by_object : {r : Read Doing} {rule : FormRule} (k j a b i : ℕ) → a ≤ k → j < b → suc k ≤ j → (r ≡ broke rule i → Inside (suc k) j i) → (i ≡ k) ⊎ ((r ≡ broke rule i) ⊎ (i ≡ j)) → Inside a b i
by_object k j a b i p q s h (inl e) = (omega arith, omega arith)
by_object k j a b i p q s h (inr (inl e)) = let w = h e in let x = w.0 in let y = w.1 in (omega arith, omega arith)
by_object k j a b i p q s h (inr (inr e)) = (omega arith, omega arith)

-- one part and then the others, which lie behind it
by_part : {X : Type 0} {r : Read X} {f : X → Read Doing} {rule : FormRule} (a b c i : ℕ) → a ≤ c → c ≤ b → (r ≡ broke rule i → Inside a c i) → ((x : X) → f x ≡ broke rule i → Inside c b i) → (r ≡ broke rule i) ⊎ ((x : X) × (r ≡ fine x) × (f x ≡ broke rule i)) → Inside a b i
by_part a b c i p q h g (inl e) = let w = h e in let x = w.0 in let y = w.1 in (omega arith, omega arith)
by_part a b c i p q h g (inr e) = let w = g e.0 e.2 in let x = w.0 in let y = w.1 in (omega arith, omega arith)

mutual
  unfolding InOrder MembersInOrder EntriesInOrder members_read array_read entries_read entry_read

  pub members_inside : (ms : Members) (t : List ℕ) (d : Doing) (a b : ℕ) (rule : FormRule) (i : ℕ) → MembersInOrder a ms b → members_read t ms d ≡ broke rule i → Inside a b i
  members_inside no_member t d a b rule i o z = absurd (cc)
  members_inside (one_member k v ms) t d a b rule i o z =
      let q = value_rises v (suc k) o.1.0 o.1.1 in
      let l = q.0 in
      let g = q.1 in
      let s = o.0 in
      by_part a b o.1.0 i (omega arith) (members_rise ms o.1.0 b o.1.2)
      (λ y. wider {a = k} {b = o.1.0} s (omega arith) (refused_inside t k v d (λ p e. array_read t v p e) (key_of t k) rule i o.1.0 o.1.1 (λ p e w. array_inside v t p e (suc k) o.1.0 rule i o.1.1 w) (member_refused t k v d (λ p e. array_read t v p e) (key_of t k) rule i y)))
      (λ e y. members_inside ms t e o.1.0 b rule i o.1.2 y)
      (then_broke (λ e. members_read t ms e) (member_of (key_of t k) t k v d (λ p e. array_read t v p e)) rule i z)

  pub array_inside : (v : Json) (t : List ℕ) (p : Level) (d : Doing) (a b : ℕ) (rule : FormRule) (i : ℕ) → InOrder a v b → array_read t v p d ≡ broke rule i → Inside a b i
  array_inside (scalar x k) t p d a b rule i o z = let e = (same_broke z).1 in let x = o.0 in let y = o.1 in (omega arith, omega arith)
  array_inside (object k ms j) t p d a b rule i o z = let e = (same_broke z).1 in let q = value_rises (object k ms j) a b o in let x = q.0 in let y = q.1 in (omega arith, omega arith)
  array_inside (array k vs j) t p d a b rule i o z =
      let q = entries_inside vs t p 0 d (suc k) j rule i o.1 z in
      let x = q.0 in
      let y = q.1 in
      let g = o.0 in
      let h = o.2 in
      (omega arith, omega arith)

  pub entries_inside : (vs : Entries) (t : List ℕ) (p : Level) (n : ℕ) (d : Doing) (a b : ℕ) (rule : FormRule) (i : ℕ) → EntriesInOrder a vs b → entries_read t vs p n d ≡ broke rule i → Inside a b i
  entries_inside no_entry t p n d a b rule i o z = absurd (cc)
  entries_inside (one_entry v vs) t p n d a b rule i o z =
      let q = value_rises v a o.0 o.1 in
      let l = q.0 in
      let g = q.1 in
      by_part a b o.0 i (omega arith) (entries_rise vs o.0 b o.2)
      (λ y. entry_inside v t p n a o.0 rule i o.1 y)
      (λ w y. entries_inside vs t p (n + 1) (doing d.draft (d.parts ⊕ w)) o.0 b rule i o.2 y)
      (then_broke (λ w. entries_read t vs p (n + 1) (doing d.draft (d.parts ⊕ w))) (entry_read t v p n) rule i z)

  pub entry_inside : (v : Json) (t : List ℕ) (p : Level) (n : ℕ) (a b : ℕ) (rule : FormRule) (i : ℕ) → InOrder a v b → entry_read t v p n ≡ broke rule i → Inside a b i
  entry_inside (scalar x k) t p n a b rule i o z = let q = o.0 in let r = o.1 in at_start k a b i q r (limit_start (ltb n (limit p)) k rule i z)
  entry_inside (array k vs j) t p n a b rule i o z = let q = value_rises (array k vs j) a b o in at_start k a b i q.0 q.1 (limit_start (ltb n (limit p)) k rule i z)
  entry_inside (object k ms j) t p n a b rule i o z =
      let q = value_rises (object k ms j) a b o in
      by_object k j a b i q.0 o.2 (members_rise ms (suc k) j o.1)
      (λ y. members_inside ms t (begun p n k) (suc k) j rule i o.1 y)
      (limit_object (ltb n (limit p)) k j (members_read t ms (begun p n k)) rule i z)

pub member_inside : (t : List ℕ) (k : ℕ) (v : Json) (d : Doing) (c : ℕ) (rule : FormRule) (i : ℕ) → InOrder (suc k) v c → member_of (key_of t k) t k v d (λ p e. array_read t v p e) ≡ broke rule i → Inside k c i
member_inside t k v d c rule i o z =
    refused_inside t k v d (λ p e. array_read t v p e) (key_of t k) rule i c o (λ p e w. array_inside v t p e (suc k) c rule i o w)
    (member_refused t k v d (λ p e. array_read t v p e) (key_of t k) rule i z)

-- an object, from its first member to its end
pub object_inside : (ms : Members) (t : List ℕ) (l : Level) (n k a j : ℕ) (rule : FormRule) (i : ℕ) → MembersInOrder a ms j → then (members_read t ms (begun l n k)) (λ d. ended (record_of d.draft) d j) ≡ broke rule i → a ≤ i
object_inside ms t l n k a j rule i o z = go (then_broke (λ d. ended (record_of d.draft) d j) (members_read t ms (begun l n k)) rule i z)
  where
    go : (members_read t ms (begun l n k) ≡ broke rule i) ⊎ ((d : Doing) × (members_read t ms (begun l n k) ≡ fine d) × (ended (record_of d.draft) d j ≡ broke rule i)) → a ≤ i
    go (inl e) = (members_inside ms t (begun l n k) a j rule i o e).0
    go (inr e) = let x = ended_inside (record_of e.0.draft) e.0 j rule i e.2 in let y = members_rise ms a j o in omega arith
