-- Where a value breaks a rule, it comes to that rule or to one before it.
use Rattle.std.proofs.Common.{◌≡◌, ◌⊎◌, ℕ, suc, ◌+◌, ◌<◌, ◌≤◌, Bool, true, false, ltb, List, length, Some, None, Option, inl, inr, refl, sym, ap, subst, ◌∙◌, arith}
use Rattle.std.proofs.lemmas.Bool.Decides.{nat_tests}
use Rattle.text.specs.Machine.{Kind, begin_object, end_object, begin_array, end_array, name, string, number, literal_true, literal_false, literal_null}
use Rattle.text.specs.Tree.{Json, Members, Entries, scalar, object, array, no_member, one_member, no_entry, one_entry}
use Rattle.text.specs.Value.{InOrder, MembersInOrder, EntriesInOrder}
use Rattle.table.specs.declared.keys.Key.{Key}
use Rattle.table.specs.declared.level.Level.{Level}
use Rattle.table.specs.declared.draft.Draft.{Draft}
use Rattle.table.specs.declared.fault.FormRule.{FormRule}
use Rattle.table.specs.declared.fault.FormRule.TheVariants.{OutermostNoObject, ArrayElsewhere, WrongKind, NamesakeMissing, Repeated, TooMany}
use Rattle.table.specs.Levels.{is_array_name, part, knows, limit}
use Rattle.table.specs.Words.{exception_spelled}
use Rattle.table.specs.Drafts.{seen_before, record_of, record_at}
use Rattle.table.specs.Form.{Lot, ◌⊕◌, Doing, doing, begun, is_value_name}
use Rattle.table.specs.Members.{first_kind, starts, said, key_of, Has, first, later, Named, Again, again, further, Entry, front, behind}
use Rattle.table.specs.Rules.{PartsOf, HasObject, itself, in_part, Belongs, required, Excepts, Breaks, elsewhere, no_array, no_object, no_string, not_allowed, missing, repeated, too_many, Broken, outermost, in_object, Before}
use Rattle.table.proofs.Values.{Read, fine, broke, then, noting, ended, in_limit, string_of, member_of, members_read, array_read, entries_read, entry_read, task_read}
use Rattle.table.proofs.Naming.{part_array, known_plain, not_value}
use Rattle.table.proofs.Keeping.{member_keeps, members_level, Kept}
use Rattle.table.proofs.Spans.{members_inside, entry_inside, member_inside, object_inside, value_rises}
use Rattle.table.proofs.Requiring.{exception_not_taken, no_word}

-- a part comes to this rule or to one before it
abbrev Hits : {X : Type 0} → Read X → FormRule → ℕ → Type 0
Hits r other k = (rule : FormRule) × (i : ℕ) × (r ≡ broke rule i) × Before rule i other k

at_once : {X : Type 0} {r : Read X} (rule : FormRule) (i : ℕ) → r ≡ broke rule i → Hits r rule i
at_once rule i e = (rule, i, e, inr (refl, inl refl))

sooner : {X : Type 0} {r : Read X} (rule : FormRule) (i : ℕ) {other : FormRule} {k : ℕ} → r ≡ broke rule i → i < k → Hits r other k
sooner rule i e l = (rule, i, e, inl l)

same_hits : {X : Type 0} {r q : Read X} {other : FormRule} {k : ℕ} → r ≡ q → Hits q other k → Hits r other k
same_hits e h = (h.0, h.1, e ∙ h.2, h.3)

hits_then : {X Y : Type 0} (f : X → Read Y) (r : Read X) (other : FormRule) (k : ℕ) → Hits r other k → Hits (then r f) other k
hits_then f r other k h = (h.0, h.1, rw (h.2) refl, h.3)

then_hits : {X Y : Type 0} (f : X → Read Y) (r : Read X) (x : X) (other : FormRule) (k : ℕ) → r ≡ fine x → Hits (f x) other k → Hits (then r f) other k
then_hits f r x other k e h = (h.0, h.1, rw e (h.2), h.3)

-- a part is read or comes to a broken rule
by_read : {X : Type 0} {A : Type 0} (r : Read X) → ((x : X) → r ≡ fine x → A) → ((rule : FormRule) (i : ℕ) → r ≡ broke rule i → A) → A
by_read (fine x) f g = f x refl
by_read (broke rule i) f g = g rule i refl

-- where the value of a member and an entry lie
member_order : (ms : Members) (a b k : ℕ) (v : Json) → Has ms k v → MembersInOrder a ms b → (c : ℕ) × InOrder (suc k) v c × (a ≤ k)
unfolding MembersInOrder
member_order no_member a b k v x o = elim x [ ]
member_order (one_member k v ms) a b _ _ first o = (o.1.0, o.1.1, o.0)
member_order (one_member i w ms) a b k v (later h) o =
    let m = member_order ms o.1.0 b k v h o.1.2 in
    let q = value_rises w (suc i) o.1.0 o.1.1 in
    let x = q.0 in
    let y = q.1 in
    let z = o.0 in
    let u = m.2 in
    (m.0, m.1, omega arith)

entry_order : (vs : Entries) (a b n : ℕ) (v : Json) → Entry vs n v → EntriesInOrder a vs b → (d : ℕ) × (c : ℕ) × InOrder d v c × (a ≤ d)
unfolding EntriesInOrder
entry_order no_entry a b n v x o = elim x [ ]
entry_order (one_entry v vs) a b n _ front o = (a, o.0, o.1, omega arith)
entry_order (one_entry w vs) a b n v (behind h) o =
    let m = entry_order vs o.0 b _ v h o.2 in
    let q = value_rises w a o.0 o.1 in
    let x = q.0 in
    let y = q.1 in
    let u = m.3 in
    (m.0, m.1, m.2, omega arith)

again_order : (t : List ℕ) (key : Key) (ms : Members) (a b k : ℕ) → Again t key ms k → MembersInOrder a ms b → a ≤ k
unfolding MembersInOrder
again_order t key no_member a b k x o = elim x [ ]
again_order t key (one_member i w ms) a b k (again {v = v} s m) o =
    let q = value_rises w (suc i) o.1.0 o.1.1 in
    let x = q.0 in
    let y = q.1 in
    let z = o.0 in
    let u = (member_order ms o.1.0 b k v m.0 o.1.2).2 in
    omega arith
again_order t key (one_member i w ms) a b k (further m) o =
    let q = value_rises w (suc i) o.1.0 o.1.1 in
    let x = q.0 in
    let y = q.1 in
    let z = o.0 in
    let u = again_order t key ms o.1.0 b k m o.1.2 in
    omega arith

-- going along the members to one of them, with a property of the object that members keep
module _ (t : List ℕ) (P : Doing → Type 0) (keeps : (k : ℕ) (v : Json) (d e : Doing) → P d → Kept (key_of t k) d.draft e.draft → P e) (other : FormRule) (i : ℕ) where
  member_hit : (ms : Members) (a b k : ℕ) (v : Json) → Has ms k v → MembersInOrder a ms b → k ≤ i → ((d : Doing) → P d → Hits (member_of (key_of t k) t k v d (λ p x. array_read t v p x)) other i) → (d : Doing) → P d → Hits (members_read t ms d) other i
  unfolding MembersInOrder members_read
  member_hit no_member a b k v x o l h d p = elim x [ ]
  member_hit (one_member k v ms) a b _ _ first o l h d p = hits_then (λ e. members_read t ms e) (member_of (key_of t k) t k v d (λ p x. array_read t v p x)) other i (h d p)
  member_hit (one_member n w ms) a b k v (later m) o l h d p =
      let f : Level → Doing → Read Doing = λ p x. array_read t w p x in
      let r = member_of (key_of t n) t n w d f in
      by_read r
      (λ e z. then_hits (λ x. members_read t ms x) r e other i z (member_hit ms o.1.0 b k v m o.1.2 l h e (keeps n w d e p (member_keeps t n w d e (key_of t n) z))))
      (λ rule j z.
      let q = member_inside t n w d o.1.0 rule j o.1.1 z in
      let u = (member_order ms o.1.0 b k v m o.1.2).2 in
      let y = q.1 in
      hits_then (λ x. members_read t ms x) r other i (sooner rule j z (omega arith)))

  -- going along the members to the second of two
  again_hit : (key : Key) (ms : Members) (a b k : ℕ) → Again t key ms k → MembersInOrder a ms b → k ≤ i → (Q : Doing → Type 0) → ((n : ℕ) (v : Json) (d e : Doing) → P d → key_of t n ≡ Some key → Kept (key_of t n) d.draft e.draft → Q e)
      → ((ms : Members) (a b : ℕ) (v : Json) → Named t key ms k v → MembersInOrder a ms b → (d : Doing) → Q d → Hits (members_read t ms d) other i) → (d : Doing) → P d → Hits (members_read t ms d) other i
  unfolding MembersInOrder members_read
  again_hit key no_member a b k x o l Q g h d p = elim x [ ]
  again_hit key (one_member n w ms) a b k (again {v = v} s m) o l Q g h d p =
      let f : Level → Doing → Read Doing = λ p x. array_read t w p x in
      let r = member_of (key_of t n) t n w d f in
      by_read r
      (λ e z. then_hits (λ x. members_read t ms x) r e other i z (h ms o.1.0 b v m o.1.2 e (g n w d e p s (member_keeps t n w d e (key_of t n) z))))
      (λ rule j z.
      let q = member_inside t n w d o.1.0 rule j o.1.1 z in
      let u = (member_order ms o.1.0 b k v m.0 o.1.2).2 in
      let y = q.1 in
      hits_then (λ x. members_read t ms x) r other i (sooner rule j z (omega arith)))
  again_hit key (one_member n w ms) a b k (further m) o l Q g h d p =
      let f : Level → Doing → Read Doing = λ p x. array_read t w p x in
      let r = member_of (key_of t n) t n w d f in
      by_read r
      (λ e z. then_hits (λ x. members_read t ms x) r e other i z (again_hit key ms o.1.0 b k m o.1.2 l Q g h e (keeps n w d e p (member_keeps t n w d e (key_of t n) z))))
      (λ rule j z.
      let q = member_inside t n w d o.1.0 rule j o.1.1 z in
      let u = again_order t key ms o.1.0 b k m o.1.2 in
      let y = q.1 in
      hits_then (λ x. members_read t ms x) r other i (sooner rule j z (omega arith)))

-- going along the entries to one of them
entry_hit : (t : List ℕ) (p : Level) (other : FormRule) (i : ℕ) (vs : Entries) (a b n m : ℕ) (v : Json) → Entry vs n v → EntriesInOrder a vs b → starts v ≤ i → Hits (entry_read t v p (m + n)) other i → (d : Doing) → Hits (entries_read t vs p m d) other i
unfolding EntriesInOrder entries_read
entry_hit t p other i no_entry a b n m v x o l h d = elim x [ ]
entry_hit t p other i (one_entry v vs) a b n m _ front o l h d =
    let e : m + 0 ≡ m = omega arith in
    hits_then (λ w. entries_read t vs p (m + 1) (doing d.draft (d.parts ⊕ w))) (entry_read t v p m) other i (subst (λ x. Hits (entry_read t v p x) other i) e h)
entry_hit t p other i (one_entry w vs) a b n m v (behind {n = x} q) o l h d =
    let f : Lot → Read Doing = λ w. entries_read t vs p (m + 1) (doing d.draft (d.parts ⊕ w)) in
    by_read (entry_read t w p m)
    (λ y z.
    let e : m + suc x ≡ (m + 1) + x = omega arith in
    then_hits f (entry_read t w p m) y other i z (entry_hit t p other i vs o.0 b x (m + 1) v q o.2 l (subst (λ x. Hits (entry_read t v p x) other i) e h) (doing d.draft (d.parts ⊕ y))))
    (λ rule j z.
    let c = entry_inside w t p m a o.0 rule j o.1 z in
    let u = entry_order vs o.0 b x v q o.2 in
    let s = value_rises v u.0 u.1 u.2 in
    let x1 = s.0 in
    let x2 = u.3 in
    let x3 = c.1 in
    hits_then f (entry_read t w p m) other i (sooner rule j z (omega arith)))

string_of_other : (x : Kind) (t : List ℕ) (key : Key) (i : ℕ) (d : Doing) → (x ≡ string → ⊥) → string_of x t key i d ≡ broke WrongKind i
string_of_other string t key i d n = absurd (n refl)
string_of_other begin_object t key i d n = refl
string_of_other end_object t key i d n = refl
string_of_other begin_array t key i d n = refl
string_of_other end_array t key i d n = refl
string_of_other name t key i d n = refl
string_of_other number t key i d n = refl
string_of_other literal_true t key i d n = refl
string_of_other literal_false t key i d n = refl
string_of_other literal_null t key i d n = refl

-- a member of an object of level l
module _ (t : List ℕ) (l : Level) (k : ℕ) (v : Json) (d : Doing) (q : d.draft.level ≡ l) (f : Level → Doing → Read Doing) (key : Key) (s : key_of t k ≡ Some key) where
  elsewhere_hit : is_array_name key ≡ true → part l key ≡ None → member_of (key_of t k) t k v d f ≡ broke ArrayElsewhere k
  elsewhere_hit a b = rw (s, a, q, b) refl

  repeated_hit : Belongs l key → seen_before key d.draft ≡ true → member_of (key_of t k) t k v d f ≡ broke Repeated k
  repeated_hit (inl b) m = let a = part_array l b.0 key b.1 in rw (s, a, q, b.1, m) refl
  repeated_hit (inr b) m = let a = known_plain l key b in rw (s, a, q, b, m) refl

  parts_hit : (p : Level) (other : FormRule) (i : ℕ) → part l key ≡ Some p → k < i → ((e : Doing) → Hits (f p e) other i) → Hits (member_of (key_of t k) t k v d f) other i
  parts_hit p other i b u h = go (seen_before key d.draft) refl
    where
      go : (m : Bool) → seen_before key d.draft ≡ m → Hits (member_of (key_of t k) t k v d f) other i
      go true m = sooner Repeated k (repeated_hit (inl (p, b)) m) u
      go false m = same_hits (let a = part_array l p key b in rw (s, a, q, b, m) refl) (h (noting key d))

  string_hit : (other : FormRule) (i : ℕ) → knows l key ≡ true → (key ≡ Key.Value → ⊥) → k < i → Hits (string_of (first_kind v) t key (starts v) (noting key d)) other i → Hits (member_of (key_of t k) t k v d f) other i
  string_hit other i b n u h = go (seen_before key d.draft) refl
    where
      go : (m : Bool) → seen_before key d.draft ≡ m → Hits (member_of (key_of t k) t k v d f) other i
      go true m = sooner Repeated k (repeated_hit (inr b) m) u
      go false m = same_hits (let a = known_plain l key b in let c = not_value key n in rw (s, a, q, b, m, c) refl) h

-- the array of a known member that is none, and its entries
no_array_hit : (t : List ℕ) (v : Json) (p : Level) (d : Doing) → (first_kind v ≡ begin_array → ⊥) → array_read t v p d ≡ broke WrongKind (starts v)
unfolding array_read
no_array_hit t (scalar x i) p d n = refl
no_array_hit t (object i ms j) p d n = refl
no_array_hit t (array i vs j) p d n = absurd (n refl)

limit_hits : {X : Type 0} (b : Bool) (at : ℕ) (r : Read X) (other : FormRule) (i : ℕ) → (at < i) ⊎ (at ≡ i) → Hits r other i → Hits (in_limit b at r) other i
limit_hits true at r other i l h = h
limit_hits false at r other i (inl l) h = sooner TooMany at refl l
limit_hits false at r other i (inr e) h = (TooMany, at, refl, inr (e, inr refl))

no_object_hit : (t : List ℕ) (v : Json) (p : Level) (n : ℕ) → (first_kind v ≡ begin_object → ⊥) → Hits (entry_read t v p n) WrongKind (starts v)
unfolding entry_read
no_object_hit t (scalar x i) p n z = limit_hits (ltb n (limit p)) i (broke WrongKind i) WrongKind i (inr refl) (at_once WrongKind i refl)
no_object_hit t (array i vs j) p n z = limit_hits (ltb n (limit p)) i (broke WrongKind i) WrongKind i (inr refl) (at_once WrongKind i refl)
no_object_hit t (object i ms j) p n z = absurd (z refl)

too_many_hit : (t : List ℕ) (v : Json) (p : Level) (n : ℕ) → limit p ≤ n → entry_read t v p n ≡ broke TooMany (starts v)
unfolding entry_read
too_many_hit t (scalar x i) p n z = let b : ltb n (limit p) ≡ false = grind (arith, nat_tests) in rw b refl
too_many_hit t (array i vs j) p n z = let b : ltb n (limit p) ≡ false = grind (arith, nat_tests) in rw b refl
too_many_hit t (object i ms j) p n z = let b : ltb n (limit p) ≡ false = grind (arith, nat_tests) in rw b refl

-- an object as it is read
abbrev object_read : List ℕ → Level → ℕ → ℕ → Members → ℕ → Read Lot
object_read t l n i ms j = then (members_read t ms (begun l n i)) (λ d. ended (record_of d.draft) d j)

unrecorded_at : (l : Level) (d : Draft) (key : Key) → required l ≡ Some key → d.word ≡ None → record_at l d ≡ None
unrecorded_at Level.Task d key e w = absurd (cc)
unrecorded_at Level.Action d key e w = absurd (cc)
unrecorded_at Level.Stream d key e w = absurd (cc)
unrecorded_at Level.Source d key e w = absurd (cc)
unrecorded_at Level.PixelFormat d key e w = absurd (cc)
unrecorded_at Level.Attribute d key e w = rw w refl
unrecorded_at Level.Value d key e w = rw w refl

-- every object of a level, and those besides in which a member came
abbrev At : Level → Doing → Type 0
At l d = (d.draft.level ≡ l) × (length d.draft.seen ≡ 15)

abbrev Marked : Level → Key → Doing → Type 0
Marked l key d = At l d × (seen_before key d.draft ≡ true)

at_begin : (l : Level) (n i : ℕ) → At l (begun l n i)
at_begin l n i = (refl, refl)

at_keeps : (l : Level) (o : Option Key) (d e : Doing) → At l d → Kept o d.draft e.draft → At l e
at_keeps l o d e a k = (k.level ∙ a.0, k.long ∙ a.1)

module _ (t : List ℕ) (l : Level) (ms : Members) (a j : ℕ) (o : MembersInOrder a ms j) where
  -- one member comes to the rule, whatever came before it
  named_hit : (key : Key) (k : ℕ) (v : Json) (other : FormRule) (i : ℕ) → Named t key ms k v → k ≤ i → ((d : Doing) → d.draft.level ≡ l → Hits (member_of (key_of t k) t k v d (λ p x. array_read t v p x)) other i) → (d : Doing) → At l d → Hits (members_read t ms d) other i
  named_hit key k v other i n u h d q = member_hit t (At l) (λ k v d e p s. at_keeps l (key_of t k) d e p s) other i ms a j k v n.0 o u (λ e p. h e p.0) d q

  -- an entry of an array does
  entry_of_hit : (p : Level) (vs : Entries) (n : ℕ) (v : Json) (other : FormRule) (i : ℕ) → PartsOf t l ms p vs → Entry vs n v → starts v ≤ i → Hits (entry_read t v p n) other i → (d : Doing) → At l d → Hits (members_read t ms d) other i
  unfolding InOrder array_read
  entry_of_hit p vs n v other i (key, k, b, c, m, w) e u h d q =
      let r = member_order ms a j k (array b vs c) m.0 o in
      let s = entry_order vs (suc b) c n v e r.1.1 in
      let y = value_rises v s.0 s.1 s.2 in
      let x1 = y.0 in
      let x2 = s.3 in
      let x3 = r.1.0 in
      let z : n ≡ 0 + n = omega arith in
      named_hit key k (array b vs c) other i m (omega arith)
      (λ x y. parts_hit t l k (array b vs c) x y (λ p x. array_read t (array b vs c) p x) key m.1 p other i w (omega arith)
      (λ x. entry_hit t p other i vs (suc b) c n 0 v e r.1.1 u (subst (λ n. Hits (entry_read t v p n) other i) z h) x))
      d q

  -- a member of a name that is marked does
  marked_hit : (key : Key) → Belongs l key → (ms : Members) (a b k : ℕ) (v : Json) → Named t key ms k v → MembersInOrder a ms b → (d : Doing) → Marked l key d → Hits (members_read t ms d) Repeated k
  marked_hit key c ms a b k v n o d q =
      member_hit t (Marked l key) (λ k v d e p s. (at_keeps l (key_of t k) d e p.0 s, s.stays p.0.1 key (inl p.1))) Repeated k ms a b k v n.0 o (omega arith)
      (λ d p. at_once Repeated k (repeated_hit t l k v d p.0.0 (λ p x. array_read t v p x) key n.1 c p.1)) d q

  -- where an object breaks a rule it comes to that rule or to one before it
  breaks_hit : (n i : ℕ) (rule : FormRule) (at : ℕ) → Breaks t l ms j rule at → Hits (object_read t l n i ms j) rule at
  breaks_hit n i rule at (elsewhere {key = key} {k = k} {v = v} m b c) =
      let h = named_hit key k v ArrayElsewhere k m (omega arith) (λ d q. at_once ArrayElsewhere k (elsewhere_hit t l k v d q (λ p x. array_read t v p x) key m.1 b c)) (begun l n i) (at_begin l n i) in
      hits_then (λ d. ended (record_of d.draft) d j) (members_read t ms (begun l n i)) ArrayElsewhere k h
  breaks_hit n i rule at (no_array {key = key} {p = p} {k = k} {v = v} m b c) =
      let r = member_order ms a j k v m.0 o in
      let y = (value_rises v (suc k) r.0 r.1).0 in
      let h = named_hit key k v WrongKind (starts v) m (omega arith) (λ d q. parts_hit t l k v d q (λ p x. array_read t v p x) key m.1 p WrongKind (starts v) b (omega arith) (λ e. at_once WrongKind (starts v) (no_array_hit t v p e c))) (begun l n i) (at_begin l n i) in
      hits_then (λ d. ended (record_of d.draft) d j) (members_read t ms (begun l n i)) WrongKind (starts v) h
  breaks_hit n i rule at (no_object {p = p} {vs = vs} {n = m} {v = v} b e c) =
      let h = entry_of_hit p vs m v WrongKind (starts v) b e (omega arith) (no_object_hit t v p m c) (begun l n i) (at_begin l n i) in
      hits_then (λ d. ended (record_of d.draft) d j) (members_read t ms (begun l n i)) WrongKind (starts v) h
  breaks_hit n i rule at (too_many {p = p} {vs = vs} {n = m} {v = v} b e c) =
      let h = entry_of_hit p vs m v TooMany (starts v) b e (omega arith) (at_once TooMany (starts v) (too_many_hit t v p m c)) (begun l n i) (at_begin l n i) in
      hits_then (λ d. ended (record_of d.draft) d j) (members_read t ms (begun l n i)) TooMany (starts v) h
  breaks_hit n i rule at (no_string {key = key} {k = k} {v = v} m b c e) =
      let r = member_order ms a j k v m.0 o in
      let y = (value_rises v (suc k) r.0 r.1).0 in
      let h = named_hit key k v WrongKind (starts v) m (omega arith) (λ d q. string_hit t l k v d q (λ p x. array_read t v p x) key m.1 WrongKind (starts v) b c (omega arith) (at_once WrongKind (starts v) (string_of_other (first_kind v) t key (starts v) (noting key d) e))) (begun l n i) (at_begin l n i) in
      hits_then (λ d. ended (record_of d.draft) d j) (members_read t ms (begun l n i)) WrongKind (starts v) h
  breaks_hit n i rule at (not_allowed {k = k} {v = v} m b s c) =
      let r = member_order ms a j k v m.0 o in
      let y = (value_rises v (suc k) r.0 r.1).0 in
      let h = named_hit Key.Exception k v WrongKind (starts v) m (omega arith) (λ d q. string_hit t l k v d q (λ p x. array_read t v p x) Key.Exception m.1 WrongKind (starts v) b (λ z. let w = ap is_value_name z in cc) (omega arith) (at_once WrongKind (starts v) (exception_hit d q v s c))) (begun l n i) (at_begin l n i) in
      hits_then (λ d. ended (record_of d.draft) d j) (members_read t ms (begun l n i)) WrongKind (starts v) h
    where
      exception_hit : (d : Doing) → d.draft.level ≡ l → (v : Json) → first_kind v ≡ string → (Excepts l (exception_spelled (said t (starts v))) → ⊥) → string_of (first_kind v) t Key.Exception (starts v) (noting Key.Exception d) ≡ broke WrongKind (starts v)
      exception_hit d q v s c = let z = exception_not_taken (said t (starts v)) (starts v) (noting Key.Exception d).draft (λ h. c (rw q at h)) in rw (s, z) refl
  breaks_hit n i rule at (repeated {key = key} {k = k} c m) =
      let h = again_hit t (At l) (λ k v d e p s. at_keeps l (key_of t k) d e p s) Repeated k key ms a j k m o (omega arith) (Marked l key)
      (λ n v d e p s z. (at_keeps l (key_of t n) d e p z, z.stays p.1 key (inr (s, let y : Belongs d.draft.level key = subst (λ m. Belongs m key) (sym p.0) c in y))))
      (λ ms a b v m o d q. marked_hit key c ms a b k v m o d q) (begun l n i) (at_begin l n i) in
      hits_then (λ d. ended (record_of d.draft) d j) (members_read t ms (begun l n i)) Repeated k h
  breaks_hit n i rule at (missing {key = key} b c) =
      by_read (members_read t ms (begun l n i))
      (λ d z.
      let y = unrecorded_at d.draft.level d.draft key (rw (members_level ms t (begun l n i) d z) b) (no_word t l key b n i ms d z c) in
      then_hits (λ d. ended (record_of d.draft) d j) (members_read t ms (begun l n i)) d NamesakeMissing j z (at_once NamesakeMissing j (rw y refl)))
      (λ rule k z. hits_then (λ d. ended (record_of d.draft) d j) (members_read t ms (begun l n i)) NamesakeMissing j (sooner rule k z (members_inside ms t (begun l n i) a j rule k o z).1))

part_order : (t : List ℕ) (l p : Level) (ms : Members) (vs : Entries) (a j : ℕ) → PartsOf t l ms p vs → MembersInOrder a ms j → (x : ℕ) × (y : ℕ) × EntriesInOrder x vs y
unfolding InOrder
part_order t l p ms vs a j (key, k, b, c, m, w) o = let r = member_order ms a j k (array b vs c) m.0 o in (suc b, c, r.1.1)

object_order : (i : ℕ) (ms : Members) (j a b : ℕ) → InOrder a (object i ms j) b → MembersInOrder (suc i) ms j
unfolding InOrder
object_order i ms j a b o = o.1

before_most : (rule : FormRule) (i : ℕ) (other : FormRule) (k : ℕ) → Before rule i other k → i ≤ k
before_most rule i other k (inl l) = omega arith
before_most rule i other k (inr e) = let p = e.0 in omega arith

object_hit : (t : List ℕ) (ms : Members) (p : Level) (n i j : ℕ) (other : FormRule) (k : ℕ) → i < k → Hits (object_read t p n i ms j) other k → Hits (entry_read t (object i ms j) p n) other k
unfolding entry_read
object_hit t ms p n i j other k u h = limit_hits (ltb n (limit p)) i (object_read t p n i ms j) other k (inl u) h

-- where an object or one of its parts breaks a rule, the object comes to that rule or to one before it
holds_hit : (t : List ℕ) {l m : Level} {ms ns : Members} {j f : ℕ} → HasObject t l ms j m ns f → (rule : FormRule) (at : ℕ) → Breaks t m ns f rule at → (a : ℕ) → MembersInOrder a ms j → (n i : ℕ) → Hits (object_read t l n i ms j) rule at
holds_hit t {l} {m} {ms} {ns} {j} {f} itself rule at b a o n i = breaks_hit t l ms a j o n i rule at b
holds_hit t {l} {m} {ms} {ns} {j} {f} (in_part {p = p} {os = os} {i = g} {e = e} {n = x} {vs = vs} q w h) rule at b a o n i =
    let r = part_order t l p ms vs a j q o in
    let s = entry_order vs r.0 r.1 x (object g os e) w r.2 in
    let y = object_order g os e s.0 s.1 s.2 in
    let z = holds_hit t h rule at b (suc g) y x g in
    let u = object_inside os t p x g (suc g) e z.0 z.1 y z.2 in
    let v = before_most z.0 z.1 rule at z.3 in
    let k = entry_of_hit t l ms a j o p vs x (object g os e) rule at q w (omega arith) (object_hit t os p x g e rule at (omega arith) z) (begun l n i) (at_begin l n i) in
    hits_then (λ d. ended (record_of d.draft) d j) (members_read t ms (begun l n i)) rule at k

-- where a value breaks a rule, it comes to that rule or to one before it
pub task_hit : (t : List ℕ) (v : Json) (b : ℕ) → InOrder 0 v b → (rule : FormRule) (i : ℕ) → Broken t v rule i → Hits (task_read t v) rule i
unfolding task_read InOrder
task_hit t (scalar x k) b o rule i (outermost n) = at_once OutermostNoObject k refl
task_hit t (array k vs j) b o rule i (outermost n) = at_once OutermostNoObject k refl
task_hit t (object k ms j) b o rule i (outermost n) = absurd (n refl)
task_hit t (object k ms j) b o rule i (in_object h c) = holds_hit t h rule i c (suc k) o.1 0 k
