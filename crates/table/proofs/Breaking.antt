-- Where a part of a value comes to a broken rule, the value breaks that rule there.
use Rattle.std.proofs.Common.{◌≡◌, ◌⊎◌, ℕ, suc, ◌+◌, Bool, true, false, ltb, List, Some, None, Option, inl, inr, refl, sym, ap, subst, ◌∙◌, arith}
use Rattle.std.proofs.lemmas.Bool.Decides.{nat_tests}
use Rattle.std.proofs.lemmas.List.{get_or-replicate}
use Rattle.text.specs.Machine.{Kind, begin_object, begin_array}
use Rattle.text.specs.Tree.{Json, Members, Entries, scalar, object, array, no_member, one_member, no_entry, one_entry, Scalar, Proper, ProperMembers, ProperEntries}
use Rattle.table.specs.declared.keys.Key.{Key}
use Rattle.table.specs.declared.level.Level.{Level}
use Rattle.table.specs.declared.record.Record.{Record}
use Rattle.table.specs.declared.draft.Draft.{Draft}
use Rattle.table.specs.declared.record.Head.{Head}
use Rattle.table.specs.declared.meaning.Meaning.{Meaning}
use Rattle.text.specs.declared.token.Placed.{Placed}
use Rattle.table.specs.declared.fault.FormRule.{FormRule}
use Rattle.table.specs.Levels.{key_code, part, knows, limit}
use Rattle.table.specs.Drafts.{seen_before, record_of, record_at, attribute_record, value_record}
use Rattle.table.specs.Form.{Lot, ◌⊕◌, Doing, doing, begun, is_value_name}
use Rattle.table.specs.Members.{starts, said, key_of, Has, first, later, Named, Again, again, further, Entry, front, behind}
use Rattle.table.specs.Rules.{PartsOf, HasObject, itself, in_part, required, Breaks, elsewhere, no_array, no_object, no_string, not_allowed, missing, repeated, too_many, Broken, outermost, in_object}
use Rattle.table.proofs.Values.{Read, then_broke, same_broke, fine, broke, then, noting, ended, in_limit, member_of, members_read, array_read, entries_read, entry_read, task_read}
use Rattle.table.proofs.Taking as taking
use Rattle.table.proofs.Taking.{Refused, member_refused}
use Rattle.table.proofs.Keeping.{Kept, member_keeps, members_level}
use Rattle.table.proofs.Naming.{key_small}
use Rattle.table.proofs.Requiring.{taken_none, without_word}

-- the members of an object that are left to be read
pub data Rest (all : Members) : Members → Type 0 where
  whole : Rest all all
  next : {k : ℕ} {v : Json} {ms : Members} → Rest all (one_member k v ms) → Rest all ms

has_rest : {all ms : Members} {k : ℕ} {v : Json} → Rest all ms → Has ms k v → Has all k v
has_rest whole h = h
has_rest (next r) h = has_rest r (later h)

again_rest : {t : List ℕ} {key : Key} {all ms : Members} {k : ℕ} → Rest all ms → Again t key ms k → Again t key all k
again_rest whole a = a
again_rest (next r) a = again_rest r (further a)

-- a member that is left and whose name is marked came before
abbrev Came : List ℕ → Members → Members → Draft → Type 0
Came t all ms d = (key : Key) → seen_before key d ≡ true → (k : ℕ) (v : Json) → Named t key ms k v → Again t key all k

came_next : (t : List ℕ) {all ms : Members} {k : ℕ} {v : Json} {d e : Draft} → Rest all (one_member k v ms) → Came t all (one_member k v ms) d → Kept (key_of t k) d e → Came t all ms e
came_next t {all} {ms} {k} {v} {d} {e} r c h key s n w m = go (h.before key s)
  where
    go : (seen_before key d ≡ true) ⊎ (key_of t k ≡ Some key) → Again t key all n
    go (inl b) = c key b n w (later m.0, m.1)
    go (inr b) = again_rest r (again b m)

fresh_unseen : (key : Key) (l : Level) (n i : ℕ) → seen_before key (begun l n i).draft ≡ true → ⊥
fresh_unseen key l n i e = let z = get_or-replicate 15 (key_code key) false false (key_small key) in cc

-- an object or one of its parts breaks the rule
pub record Found (t : List ℕ) (l : Level) (ms : Members) (j : ℕ) (rule : FormRule) (i : ℕ) : Type 0 where
  level : Level
  members : Members
  end : ℕ
  holds : HasObject t l ms j level members end
  breaks : Breaks t level members end rule i

here : {t : List ℕ} {l : Level} {ms : Members} {j : ℕ} {rule : FormRule} {i : ℕ} → Breaks t l ms j rule i → Found t l ms j rule i
here {t} {l} {ms} {j} b = record { level = l; members = ms; end = j; holds = itself; breaks = b }

inner : {t : List ℕ} {l p : Level} {ms os : Members} {j e n i at : ℕ} {vs : Entries} {rule : FormRule} → PartsOf t l ms p vs → Entry vs n (object i os e) → Found t p os e rule at → Found t l ms j rule at
inner a b f = record { level = f.level; members = f.members; end = f.end; holds = in_part a b f.holds; breaks = f.breaks }

no_bracket : (x : Kind) → Scalar x → ((x ≡ begin_object → ⊥) × (x ≡ begin_array → ⊥))
no_bracket x p = (λ e. subst Scalar e p, λ e. subst Scalar e p)

either_way : {A B C : Type 0} → A ⊎ B → (A → C) → (B → C) → C
either_way (inl a) f g = f a
either_way (inr b) f g = g b

-- the record of an object is missing where its level requires a word and none came
no_attribute : (h : Head) (o : Option (Placed Meaning)) → attribute_record h o ≡ None → o ≡ None
no_attribute h None e = refl
no_attribute h (Some p) e = absurd (cc)

no_value : (h : Head) (o : Option (Placed Meaning)) → value_record h o ≡ None → o ≡ None
no_value h None e = refl
no_value h (Some p) e = absurd (cc)

pub unrecorded : (l : Level) (d : Draft) → record_at l d ≡ None → (key : Key) × (required l ≡ Some key) × (d.word ≡ None)
unrecorded Level.Task d e = absurd (cc)
unrecorded Level.Action d e = absurd (cc)
unrecorded Level.Stream d e = absurd (cc)
unrecorded Level.Source d e = absurd (cc)
unrecorded Level.PixelFormat d e = absurd (cc)
unrecorded Level.Attribute d e = (Key.Attribute, refl, no_attribute d.head d.word e)
unrecorded Level.Value d e = (Key.Value, refl, no_value d.head d.word e)

module _ (t : List ℕ) (l : Level) (n i : ℕ) (ms : Members) (d : Doing) (z : members_read t ms (begun l n i) ≡ fine d) (q : d.draft.level ≡ l) where
  ended_found : (j : ℕ) (o : Option Record) (rule : FormRule) (at : ℕ) → record_of d.draft ≡ o → ended o d j ≡ broke rule at → Found t l ms j rule at
  ended_found j None rule at e w =
      let u = unrecorded l d.draft (subst (λ m. record_at m d.draft ≡ None) q e) in
      let s = same_broke w in
      rw (sym s.0, sym s.1) (here (missing u.1 (without_word t l u.0 u.1 n i ms d z u.2)))
  ended_found j (Some r) rule at e w = absurd (cc)

-- a member
module _ (t : List ℕ) (l : Level) (j k : ℕ) (v : Json) (all ms : Members) (r : Rest all (one_member k v ms)) (d : Doing) (q : d.draft.level ≡ l) (c : Came t all (one_member k v ms) d.draft) where
  it_has : Has all k v
  it_has = has_rest r first

  refused_found : (f : Level → Doing → Read Doing) (o : Option Key) (rule : FormRule) (i : ℕ) → key_of t k ≡ o → ((key : Key) (p : Level) → key_of t k ≡ Some key → part l key ≡ Some p → f p (noting key d) ≡ broke rule i → Found t l all j rule i) → Refused t k v d f o rule i → Found t l all j rule i
  refused_found f None rule i n h r = elim r [ ]
  refused_found f (Some key) rule i n h (taking.elsewhere a b) = here (elsewhere (it_has, n) a (rw q at b))
  refused_found f (Some key) rule i n h (taking.array_again {p = p} a b) = here (repeated (inl (p, rw q at a)) (c key b k v (first, n)))
  refused_found f (Some key) rule i n h (taking.plain_again a b) = here (repeated (inr (rw q at a)) (c key b k v (first, n)))
  refused_found f (Some key) rule i n h (taking.in_parts {p = p} a b) = h key p n (rw q at a) b
  refused_found f (Some key) rule i n h (taking.no_string a b e) = here (no_string (it_has, n) (rw q at a) (λ z. let w : is_value_name key ≡ true = rw z refl in cc) e)
  refused_found f (Some key) rule i n h (taking.not_taken a b e) =
      let w = taken_none key (said t (starts v)) (starts v) (noting key d).draft e in
      let x : knows l Key.Exception ≡ true = rw (q, w.0) at a in
      let y : key_of t k ≡ Some Key.Exception = n ∙ ap (λ s. Some s) w.0 in
      here (not_allowed (it_has, y) x b (rw q at w.1))

-- an object: among its members or at its end
object_found : (t : List ℕ) (l : Level) (n i j : ℕ) (ms : Members) {rule : FormRule} {at : ℕ} → (members_read t ms (begun l n i) ≡ broke rule at → Found t l ms j rule at) → then (members_read t ms (begun l n i)) (λ d. ended (record_of d.draft) d j) ≡ broke rule at → Found t l ms j rule at
object_found t l n i j ms {rule} {at} h z =
    either_way (then_broke (λ d. ended (record_of d.draft) d j) (members_read t ms (begun l n i)) rule at z) h
    (λ y. ended_found t l n i ms y.0 y.1 (members_level ms t (begun l n i) y.0 y.1) j (record_of y.0.draft) rule at refl y.2)

-- an entry, if what lies in it is found
limit_found : {t : List ℕ} {l : Level} {j : ℕ} {all : Members} {m : Level} {full : Entries} {n : ℕ} {v : Json} {r : Read Lot} → PartsOf t l all m full → Entry full n v → (b : Bool) → ltb n (limit m) ≡ b → (rule : FormRule) (i : ℕ) → (r ≡ broke rule i → Found t l all j rule i) → in_limit b (starts v) r ≡ broke rule i → Found t l all j rule i
limit_found a e true s rule i h z = h z
limit_found a e false s rule i h z = let y = same_broke z in rw (sym y.0, sym y.1) (here (too_many a e (grind (arith, nat_tests))))

mutual
  unfolding Proper ProperMembers ProperEntries members_read array_read entries_read entry_read

  members_found : (ms : Members) → ProperMembers ms → (t : List ℕ) (l : Level) (j : ℕ) (all : Members) → Rest all ms → (d : Doing) → d.draft.level ≡ l → Came t all ms d.draft → (rule : FormRule) (i : ℕ) → members_read t ms d ≡ broke rule i → Found t l all j rule i
  members_found no_member p t l j all r d q c rule i z = absurd (cc)
  members_found (one_member k v ms) p t l j all r d q c rule i z =
      let f : Level → Doing → Read Doing = λ p x. array_read t v p x in
      either_way (then_broke (λ x. members_read t ms x) (member_of (key_of t k) t k v d f) rule i z)
      (λ y. refused_found t l j k v all ms r d q c f (key_of t k) rule i refl
      (λ key m n w x. array_found v p.0 t l j all (noting key d) key k m (has_rest r first, n) w rule i x)
      (member_refused t k v d f (key_of t k) rule i y))
      (λ y. let s = member_keeps t k v d y.0 (key_of t k) y.1 in members_found ms p.1 t l j all (next r) y.0 (s.level ∙ q) (came_next t r c s) rule i y.2)

  array_found : (v : Json) → Proper v → (t : List ℕ) (l : Level) (j : ℕ) (all : Members) (d : Doing) (key : Key) (k : ℕ) (m : Level) → Named t key all k v → part l key ≡ Some m → (rule : FormRule) (i : ℕ) → array_read t v m d ≡ broke rule i → Found t l all j rule i
  array_found (scalar x a) p t l j all d key k m n w rule i z = let s = same_broke z in rw (sym s.0, sym s.1) (here (no_array n w (no_bracket x p).1))
  array_found (object a ms b) p t l j all d key k m n w rule i z = let s = same_broke z in rw (sym s.0, sym s.1) (here (no_array n w (λ e. cc)))
  array_found (array a vs b) p t l j all d key k m n w rule i z = entries_found vs p t l j all m vs (key, k, a, b, n, w) 0 (λ x y e. let w : x ≡ 0 + x = omega arith in subst (λ n. Entry vs n y) w e) d rule i z

  entries_found : (vs : Entries) → ProperEntries vs → (t : List ℕ) (l : Level) (j : ℕ) (all : Members) (m : Level) (full : Entries) → PartsOf t l all m full → (n : ℕ) → ((x : ℕ) (v : Json) → Entry vs x v → Entry full (n + x) v) → (d : Doing) (rule : FormRule) (i : ℕ) → entries_read t vs m n d ≡ broke rule i → Found t l all j rule i
  entries_found no_entry p t l j all m full a n h d rule i z = absurd (cc)
  entries_found (one_entry v vs) p t l j all m full a n h d rule i z =
      either_way (then_broke (λ o. entries_read t vs m (n + 1) (doing d.draft (d.parts ⊕ o))) (entry_read t v m n) rule i z)
      (λ y. entry_found v p.0 t l j all m full a n (let e : n + 0 ≡ n = omega arith in subst (λ x. Entry full x v) e (h 0 v front)) rule i y)
      (λ y. entries_found vs p.1 t l j all m full a (n + 1) (λ x w e. let s : n + suc x ≡ (n + 1) + x = omega arith in subst (λ x. Entry full x w) s (h (suc x) w (behind e))) (doing d.draft (d.parts ⊕ y.0)) rule i y.2)

  entry_found : (v : Json) → Proper v → (t : List ℕ) (l : Level) (j : ℕ) (all : Members) (m : Level) (full : Entries) → PartsOf t l all m full → (n : ℕ) → Entry full n v → (rule : FormRule) (i : ℕ) → entry_read t v m n ≡ broke rule i → Found t l all j rule i
  entry_found (scalar x at) p t l j all m full a n e rule i z = limit_found a e (ltb n (limit m)) refl rule i (λ y. let s = same_broke y in rw (sym s.0, sym s.1) (here (no_object a e (no_bracket x p).0))) z
  entry_found (array at vs b) p t l j all m full a n e rule i z = limit_found a e (ltb n (limit m)) refl rule i (λ y. let s = same_broke y in rw (sym s.0, sym s.1) (here (no_object a e (λ w. cc)))) z
  entry_found (object at ms b) p t l j all m full a n e rule i z =
      limit_found a e (ltb n (limit m)) refl rule i
      (λ y. inner a e (object_found t m n at b ms (λ w. members_found ms p t m b ms whole (begun m n at) refl (λ key s. absurd (fresh_unseen key m n at s)) rule i w) y))
      z

-- a value that comes to a broken rule breaks it
pub task_found : (v : Json) → Proper v → (t : List ℕ) (rule : FormRule) (i : ℕ) → task_read t v ≡ broke rule i → Broken t v rule i
unfolding Proper task_read
task_found (scalar x at) p t rule i z = let s = same_broke z in rw (sym s.0, sym s.1) (outermost {v = scalar x at} (no_bracket x p).0)
task_found (array at vs b) p t rule i z = let s = same_broke z in rw (sym s.0, sym s.1) (outermost {v = array at vs b} (λ w. cc))
task_found (object at ms b) p t rule i z =
    let f = object_found t Level.Task 0 at b ms (λ w. members_found ms p t Level.Task b ms whole (begun Level.Task 0 at) refl (λ key s. absurd (fresh_unseen key Level.Task 0 at s)) rule i w) z in
    in_object f.holds f.breaks
