-- The form of a task by the parts of its JSON value: what each does to the object that it lies in. There is no stack of
-- places here, and what the tokens of the value come to is this.
use Rattle.std.proofs.Common.{◌≡◌, ◌⊎◌, inl, inr, ℕ, ◌+◌, Bool, true, false, ltb, List, [], ◌∷◌, drop, Some, None, Option, refl, sym, ap, ◌∙◌}
use Rattle.text.specs.Machine.{Kind, begin_object, end_object, begin_array, end_array, name, string, number, literal_true, literal_false, literal_null, Tape, good, event}
use Rattle.text.specs.Tree.{Json, Members, Entries, scalar, object, array, no_member, one_member, no_entry, one_entry, events, member_events, entry_events, Scalar, Proper, ProperMembers, ProperEntries}
use Rattle.text.specs.Strings.{stands}
use Rattle.text.specs.Parts.{string_part}
use Rattle.table.specs.declared.keys.Key.{Key}
use Rattle.table.specs.declared.level.Level.{Level}
use Rattle.table.specs.declared.record.Record.{Record}
use Rattle.table.specs.declared.draft.Draft.{Draft}
use Rattle.table.specs.declared.fault.FormRule.{FormRule}
use Rattle.table.specs.declared.fault.FormRule.TheVariants.{OutermostNoObject, ArrayElsewhere, WrongKind, NamesakeMissing, Repeated, TooMany}
use Rattle.table.specs.Levels.{is_array_name, part, knows, limit}
use Rattle.table.specs.Words.{value_meaning}
use Rattle.table.specs.Drafts.{seen_before, noted, with_unknown, with_word, with_entries, taken, record_of}
use Rattle.table.specs.Form.{Lot, ◌⊕◌, Doing, doing, begun, Place, between, before_array, before_value, entries, beside, State, begins, inside, failed, done, closed, given, closing, once, on_array_name, on_plain_name, on_known_name, on_name, key_at, on_taken, is_value_name, within, on_at, after}
use Rattle.table.specs.Members.{first_kind, starts}
use Rattle.table.proofs.Joining.{after_failed}
use Rattle.table.proofs.Asides.{aside_value}

-- what a part of a value comes to: something, or the first rule that it breaks
pub data Read (X : Type 0) : Type 0 where
  fine : X → Read X
  broke : FormRule → ℕ → Read X

abbrev pub then : {X Y : Type 0} → Read X → (X → Read Y) → Read Y
then (fine x) f = f x
then (broke rule i) f = broke rule i

-- the state at which the tokens go on
abbrev pub resume : {X : Type 0} → Read X → (X → State) → State
resume (fine x) f = f x
resume (broke rule i) f = failed rule i

-- a string was taken, or is not allowed
abbrev pub took : Option Draft → Lot → ℕ → Read Doing
took None b i = broke WrongKind i
took (Some h) b i = fine (doing h b)

-- a member that is a string, by the kind of its value
abbrev pub string_of : Kind → List ℕ → Key → ℕ → Doing → Read Doing
string_of string t key i d = took (taken (stands (string_part (drop i t))) key i d.draft) d.parts i
string_of begin_object t key i d = broke WrongKind i
string_of end_object t key i d = broke WrongKind i
string_of begin_array t key i d = broke WrongKind i
string_of end_array t key i d = broke WrongKind i
string_of name t key i d = broke WrongKind i
string_of number t key i d = broke WrongKind i
string_of literal_true t key i d = broke WrongKind i
string_of literal_false t key i d = broke WrongKind i
string_of literal_null t key i d = broke WrongKind i

-- the value of a known member that is no array, by whether it is a value object's value
abbrev pub value_of : Bool → List ℕ → Key → Json → Doing → Read Doing
value_of true t key v d = fine (doing (with_word (value_meaning (first_kind v) (drop (starts v) t)) (starts v) d.draft) d.parts)
value_of false t key v d = string_of (first_kind v) t key (starts v) d

-- a known member, by whether it came before
abbrev pub first_time : {X : Type 0} → Bool → ℕ → Read X → Read X
first_time true k r = broke Repeated k
first_time false k r = r

abbrev pub noting : Key → Doing → Doing
noting key d = doing (noted key d.draft) d.parts

abbrev pub array_of : Option Level → Key → ℕ → Doing → (Level → Doing → Read Doing) → Read Doing
array_of None key k d f = broke ArrayElsewhere k
array_of (Some p) key k d f = first_time (seen_before key d.draft) k (f p (noting key d))

abbrev pub plain_of : Bool → List ℕ → Key → ℕ → Json → Doing → Read Doing
plain_of false t key k v d = fine (doing (with_unknown d.draft) d.parts)
plain_of true t key k v d = first_time (seen_before key d.draft) k (value_of (is_value_name key) t key v (noting key d))

abbrev pub known_of : Bool → List ℕ → Key → ℕ → Json → Doing → (Level → Doing → Read Doing) → Read Doing
known_of true t key k v d f = array_of (part d.draft.level key) key k d f
known_of false t key k v d f = plain_of (knows d.draft.level key) t key k v d

-- a member whose name stands at k; f reads the value as an array of parts
abbrev pub member_of : Option Key → List ℕ → ℕ → Json → Doing → (Level → Doing → Read Doing) → Read Doing
member_of None t k v d f = fine (doing (with_unknown d.draft) d.parts)
member_of (Some key) t k v d f = known_of (is_array_name key) t key k v d f

-- an object ends
abbrev pub ended : Option Record → Doing → ℕ → Read Lot
ended None d j = broke NamesakeMissing j
ended (Some r) d j = fine (closed d r)

-- an entry within the limit
abbrev pub in_limit : {X : Type 0} → Bool → ℕ → Read X → Read X
in_limit true i r = r
in_limit false i r = broke TooMany i

unfoldable mutual
  -- the members of an object
  pub members_read : List ℕ → Members → Doing → Read Doing
  members_read t no_member d = fine d
  members_read t (one_member k v ms) d = then (member_of (key_at (drop k t)) t k v d (λ p e. array_read t v p e)) (λ e. members_read t ms e)

  -- the array of a known member
  pub array_read : List ℕ → Json → Level → Doing → Read Doing
  array_read t (scalar x i) p d = broke WrongKind i
  array_read t (object i ms j) p d = broke WrongKind i
  array_read t (array i vs j) p d = entries_read t vs p 0 d

  -- its entries from the n-th on
  pub entries_read : List ℕ → Entries → Level → ℕ → Doing → Read Doing
  entries_read t no_entry p n d = fine (doing (with_entries n d.draft) d.parts)
  entries_read t (one_entry v vs) p n d = then (entry_read t v p n) (λ o. entries_read t vs p (n + 1) (doing d.draft (d.parts ⊕ o)))

  -- the n-th entry
  pub entry_read : List ℕ → Json → Level → ℕ → Read Lot
  entry_read t (scalar x i) p n = in_limit (ltb n (limit p)) i (broke WrongKind i)
  entry_read t (object i ms j) p n = in_limit (ltb n (limit p)) i (then (members_read t ms (begun p n i)) (λ d. ended (record_of d.draft) d j))
  entry_read t (array i vs j) p n = in_limit (ltb n (limit p)) i (broke WrongKind i)

-- the outermost value
unfoldable pub task_read : List ℕ → Json → Read Lot
task_read t (scalar x i) = broke OutermostNoObject i
task_read t (object i ms j) = then (members_read t ms (begun Level.Task 0 i)) (λ d. ended (record_of d.draft) d j)
task_read t (array i vs j) = broke OutermostNoObject i

-- what a part comes to is one thing
pub same_fine : {X : Type 0} {x y : X} → ◌≡◌ {A = Read X} (fine x) (fine y) → x ≡ y
same_fine e = cc

pub same_broke : {X : Type 0} {rule other : FormRule} {i j : ℕ} → ◌≡◌ {A = Read X} (broke rule i) (broke other j) → (rule ≡ other) × (i ≡ j)
same_broke e = (cc, cc)

-- what comes of one part and then of another
pub then_fine : {X Y : Type 0} (f : X → Read Y) (r : Read X) (y : Y) → then r f ≡ fine y → (x : X) × (r ≡ fine x) × (f x ≡ fine y)
then_fine f (fine x) y e = (x, refl, e)
then_fine f (broke rule i) y e = absurd (cc)

pub then_broke : {X Y : Type 0} (f : X → Read Y) (r : Read X) (rule : FormRule) (i : ℕ) → then r f ≡ broke rule i → (r ≡ broke rule i) ⊎ ((x : X) × (r ≡ fine x) × (f x ≡ broke rule i))
then_broke f (fine x) rule i e = inr (x, refl, e)
then_broke f (broke a b) rule i e = inl (let p : a ≡ rule = cc in let q : b ≡ i = cc in cc)

-- a broken rule stays, whatever comes
both_failed : (t : List ℕ) (rule : FormRule) (i : ℕ) (u w : Tape) → after t (failed rule i) u ≡ after t (failed rule i) w
both_failed t rule i u w = after_failed t rule i u ∙ sym (after_failed t rule i w)

-- two tapes that come to the same after each state come to the same after a part
same_after : {X : Type 0} (t : List ℕ) (r : Read X) (f g : X → State) (u w : Tape) → ((x : X) → after t (f x) u ≡ after t (g x) w) → after t (resume r f) u ≡ after t (resume r g) w
same_after t (fine x) f g u w h = h x
same_after t (broke rule i) f g u w h = both_failed t rule i u w

resume_then : {X Y : Type 0} (r : Read X) (f : X → Read Y) (g : Y → State) → resume (then r f) g ≡ resume r (λ x. resume (f x) g)
resume_then (fine x) f g = refl
resume_then (broke rule i) f g = refl

-- what holds of the kinds that a scalar may have
by_scalar : (P : Kind → Type 0) → P string → P number → P literal_true → P literal_false → P literal_null → (x : Kind) → Scalar x → P x
by_scalar P s n t f z begin_object p = absurd p
by_scalar P s n t f z end_object p = absurd p
by_scalar P s n t f z begin_array p = absurd p
by_scalar P s n t f z end_array p = absurd p
by_scalar P s n t f z name p = absurd p
by_scalar P s n t f z string p = s
by_scalar P s n t f z number p = n
by_scalar P s n t f z literal_true p = t
by_scalar P s n t f z literal_false p = f
by_scalar P s n t f z literal_null p = z

-- the states among the members of an object
abbrev among : List Place → Doing → State
among ps d = inside (between d ∷ ps)

-- the value of a known member that is no array
string_told : (t : List ℕ) (key : Key) (v : Json) → Proper v → (d : Doing) (ps : List Place) (w : Tape) → is_value_name key ≡ false → after t (inside (before_value key d ∷ ps)) (events v w) ≡ after t (resume (string_of (first_kind v) t key (starts v) d) (among ps)) w
unfolding events after on_at Proper
string_told t key (scalar x i) p d ps w e =
    by_scalar (λ x. after t (inside (before_value key d ∷ ps)) (event x i w) ≡ after t (resume (string_of x t key i d) (among ps)) w)
    (rw (e, after) (taken_told (taken (stands (string_part (drop i t))) key i d.draft)))
    (rw (e, after) refl) (rw (e, after) refl) (rw (e, after) refl) (rw (e, after) refl) x p
  where
    taken_told : (o : Option Draft) → after t (on_taken o d.parts i ps) w ≡ after t (resume (took o d.parts i) (among ps)) w
    taken_told None = refl
    taken_told (Some h) = refl
string_told t key (object i ms j) p d ps w e = rw (e, after) (both_failed t WrongKind i (member_events ms (event end_object j w)) w)
string_told t key (array i vs j) p d ps w e = rw (e, after) (both_failed t WrongKind i (entry_events vs (event end_array j w)) w)

value_told : (t : List ℕ) (key : Key) (v : Json) → Proper v → (d : Doing) (ps : List Place) (w : Tape) (b : Bool) → is_value_name key ≡ b → after t (inside (before_value key d ∷ ps)) (events v w) ≡ after t (resume (value_of b t key v d) (among ps)) w
unfolding events after on_at
value_told t key v p d ps w false e = string_told t key v p d ps w e
value_told t key (scalar x i) p d ps w true e = rw (e, after) (aside_value (scalar x i) p (doing (with_word (value_meaning x (drop i t)) i d.draft) d.parts) t ps w)
value_told t key (object i ms j) p d ps w true e = rw (e, after) (aside_value (object i ms j) p (doing (with_word (value_meaning begin_object (drop i t)) i d.draft) d.parts) t ps w)
value_told t key (array i vs j) p d ps w true e = rw (e, after) (aside_value (array i vs j) p (doing (with_word (value_meaning begin_array (drop i t)) i d.draft) d.parts) t ps w)

-- a member, if f reads its value as the array of a known member
module _ (t : List ℕ) (k : ℕ) (v : Json) (p : Proper v) (d : Doing) (ps : List Place) (w : Tape) (f : Level → Doing → Read Doing)
    (h : (l : Level) (e : Doing) → after t (inside (before_array l e ∷ ps)) (events v w) ≡ after t (resume (f l e) (among ps)) w) where
  abbrev Told : State → Read Doing → Type 0
  Told s r = after t s (events v w) ≡ after t (resume r (among ps)) w

  -- a value that only counts as JSON
  beside_told : Told (inside (beside 0 (doing (with_unknown d.draft) d.parts) ∷ ps)) (fine (doing (with_unknown d.draft) d.parts))
  beside_told = aside_value v p (doing (with_unknown d.draft) d.parts) t ps w

  broken_told : (rule : FormRule) (i : ℕ) → Told (failed rule i) (broke rule i)
  broken_told rule i = both_failed t rule i (events v w) w

  once_told : (b : Bool) (q : Place) (r : Read Doing) → Told (inside (q ∷ ps)) r → Told (once b q k ps) (first_time b k r)
  once_told true q r z = broken_told Repeated k
  once_told false q r z = z

  array_name_told : (o : Option Level) (key : Key) → Told (on_array_name o key d k ps) (array_of o key k d f)
  array_name_told None key = broken_told ArrayElsewhere k
  array_name_told (Some l) key = once_told (seen_before key d.draft) _ _ (h l (noting key d))

  plain_name_told : (b : Bool) (key : Key) → Told (on_plain_name b key d k ps) (plain_of b t key k v d)
  plain_name_told false key = beside_told
  plain_name_told true key = once_told (seen_before key d.draft) _ _ (value_told t key v p (noting key d) ps w _ refl)

  known_name_told : (b : Bool) (key : Key) → Told (on_known_name b key d k ps) (known_of b t key k v d f)
  known_name_told true key = array_name_told (part d.draft.level key) key
  known_name_told false key = plain_name_told (knows d.draft.level key) key

  member_told : (o : Option Key) → Told (on_name o d k ps) (member_of o t k v d f)
  unfolding on_name
  member_told None = beside_told
  member_told (Some key) = known_name_told (is_array_name key) key

-- an object's end
ended_told : (t : List ℕ) (o : Option Record) (d : Doing) (j : ℕ) (ps : List Place) (w : Tape) → after t (closing o d j ps) w ≡ after t (resume (ended o d j) (λ x. given x ps)) w
ended_told t None d j ps w = refl
ended_told t (Some r) d j ps w = refl

limit_told : (t : List ℕ) (b : Bool) (s : State) (r : Read Lot) (i : ℕ) (ps : List Place) (u w : Tape) → after t s u ≡ after t (resume r (λ x. given x ps)) w → after t (within b s i) u ≡ after t (resume (in_limit b i r) (λ x. given x ps)) w
limit_told t true s r i ps u w h = h
limit_told t false s r i ps u w h = both_failed t TooMany i u w

-- an object, whose members come to what they come to
object_told : (t : List ℕ) (r : Read Doing) (b : Doing) (j : ℕ) (ps : List Place) (u w : Tape) → after t (among ps b) w ≡ after t (resume r (among ps)) (event end_object j u) → after t (among ps b) w ≡ after t (resume (then r (λ d. ended (record_of d.draft) d j)) (λ o. given o ps)) u
unfolding after on_at
object_told t r b j ps u w h =
    h
    ∙ same_after t r (among ps) (λ d. resume (ended (record_of d.draft) d j) (λ o. given o ps)) (event end_object j u) u (λ d. ended_told t (record_of d.draft) d j ps u)
    ∙ ap (λ s. after t s u) (sym (resume_then r (λ d. ended (record_of d.draft) d j) (λ o. given o ps)))

-- the tokens of a part come to what the part comes to
mutual
  unfolding events member_events entry_events Proper ProperMembers ProperEntries members_read array_read entries_read entry_read after on_at given

  members_told : (ms : Members) → ProperMembers ms → (t : List ℕ) (d : Doing) (ps : List Place) (u : Tape) → after t (among ps d) (member_events ms u) ≡ after t (resume (members_read t ms d) (among ps)) u
  members_told no_member p t d ps u = refl
  members_told (one_member k v ms) p t d ps u =
      let r = member_of (key_at (drop k t)) t k v d (λ l e. array_read t v l e) in
      member_told t k v p.0 d ps (member_events ms u) (λ l e. array_read t v l e) (λ l e. array_told v p.0 t l e ps (member_events ms u)) (key_at (drop k t))
      ∙ same_after t r (among ps) (λ e. resume (members_read t ms e) (among ps)) (member_events ms u) u (λ e. members_told ms p.1 t e ps u)
      ∙ ap (λ s. after t s u) (sym (resume_then r (λ e. members_read t ms e) (among ps)))

  array_told : (v : Json) → Proper v → (t : List ℕ) (l : Level) (d : Doing) (ps : List Place) (u : Tape) → after t (inside (before_array l d ∷ ps)) (events v u) ≡ after t (resume (array_read t v l d) (among ps)) u
  array_told (scalar x i) p t l d ps u = by_scalar (λ x. after t (inside (before_array l d ∷ ps)) (event x i u) ≡ after t (failed WrongKind i) u) refl refl refl refl refl x p
  array_told (object i ms j) p t l d ps u = both_failed t WrongKind i (member_events ms (event end_object j u)) u
  array_told (array i vs j) p t l d ps u = entries_told vs p t l 0 j d ps u

  entries_told : (vs : Entries) → ProperEntries vs → (t : List ℕ) (l : Level) (n j : ℕ) (d : Doing) (ps : List Place) (u : Tape) → after t (inside (entries l n d ∷ ps)) (entry_events vs (event end_array j u)) ≡ after t (resume (entries_read t vs l n d) (among ps)) u
  entries_told no_entry p t l n j d ps u = refl
  entries_told (one_entry v vs) p t l n j d ps u =
      let r = entry_read t v l n in
      entry_told v p.0 t l n d ps (entry_events vs (event end_array j u))
      ∙ same_after t r (λ o. given o (entries l n d ∷ ps)) (λ o. resume (entries_read t vs l (n + 1) (doing d.draft (d.parts ⊕ o))) (among ps)) (entry_events vs (event end_array j u)) u (λ o. entries_told vs p.1 t l (n + 1) j (doing d.draft (d.parts ⊕ o)) ps u)
      ∙ ap (λ s. after t s u) (sym (resume_then r _ (among ps)))

  entry_told : (v : Json) → Proper v → (t : List ℕ) (l : Level) (n : ℕ) (d : Doing) (ps : List Place) (u : Tape) → after t (inside (entries l n d ∷ ps)) (events v u) ≡ after t (resume (entry_read t v l n) (λ o. given o (entries l n d ∷ ps))) u
  entry_told (scalar x i) p t l n d ps u =
      let e = entries l n d ∷ ps in
      let z = limit_told t (ltb n (limit l)) (failed WrongKind i) (broke WrongKind i) i e u u refl in
      by_scalar (λ x. after t (inside (entries l n d ∷ ps)) (event x i u) ≡ after t (resume (entry_read t (scalar x i) l n) (λ o. given o e)) u)
      z z z z z x p
  entry_told (object i ms j) p t l n d ps u =
      let e = entries l n d ∷ ps in
      let w = member_events ms (event end_object j u) in
      limit_told t (ltb n (limit l)) (inside (between (begun l n i) ∷ e)) (then (members_read t ms (begun l n i)) (λ d. ended (record_of d.draft) d j)) i e w u
      (object_told t (members_read t ms (begun l n i)) (begun l n i) j e u w (members_told ms p t (begun l n i) e (event end_object j u)))
  entry_told (array i vs j) p t l n d ps u =
      let w = entry_events vs (event end_array j u) in
      limit_told t (ltb n (limit l)) (failed WrongKind i) (broke WrongKind i) i (entries l n d ∷ ps) w u (both_failed t WrongKind i w u)

-- the tokens of the outermost value come to what it comes to
pub task_told : (v : Json) → Proper v → (t : List ℕ) → after t begins (events v good) ≡ resume (task_read t v) (λ o. done o)
unfolding events Proper task_read after on_at given
task_told (scalar x i) p t = by_scalar (λ x. after t begins (event x i good) ≡ failed OutermostNoObject i) refl refl refl refl refl x p
task_told (object i ms j) p t = object_told t (members_read t ms (begun Level.Task 0 i)) (begun Level.Task 0 i) j [] good (member_events ms (event end_object j good)) (members_told ms p t (begun Level.Task 0 i) [] (event end_object j good))
task_told (array i vs j) p t = after_failed t OutermostNoObject i (entry_events vs (event end_array j good))
