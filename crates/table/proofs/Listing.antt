-- The arrays of objects, level by level: their entries leave the records of the objects that a JSON value writes, and add
-- their weight.
use Rattle.std.proofs.Common.{◌≡◌, ℕ, zero, suc, ◌+◌, Bool, true, false, ltb, List, [], ◌∷◌, ◌++◌, length, get_or, set, Some, None, Option, refl, sym, ap, ◌∙◌, arith}
use Rattle.std.proofs.lemmas.List.{append_assoc, append-nil, length-set, get_or-set_same}
use Rattle.text.specs.Tree.{Json, Members, Entries, scalar, object, array, no_entry, one_entry}
use Rattle.table.specs.declared.keys.Key.{Key}
use Rattle.table.specs.declared.level.Level.{Level}
use Rattle.table.specs.declared.record.Record.{Record}
use Rattle.table.specs.declared.draft.Draft.{Draft}
use Rattle.table.specs.Levels.{key_code, part, limit}
use Rattle.table.specs.Drafts.{seen_before, noted, with_entries, record_of}
use Rattle.table.specs.Form.{Lot, nothing, ◌⊕◌, Doing, doing, begun, is_task, leaves, closed}
use Rattle.table.specs.TaskOf.{is_key, value_if, or_else, named, skipped, entries_of, count, unless, object_before, objects_from, weight_before, weight_from}
use Rattle.table.proofs.Values.{same_fine, then_fine, Read, fine, then, noting, in_limit, ended, members_read, entries_read, entry_read}
use Rattle.table.proofs.Views.{Stands, Shows, shows_none, shows_more}
use Rattle.table.proofs.Naming.{key_small}
use Rattle.table.proofs.Drafting.{below, array_name, word_name, array_sort, word_sort, array_known, other_sort, is_itself, not_known, Does, aside, lists, remarks, for_vendor, excepts, says, kept}

limit_fine : {X : Type 0} (b : Bool) (i : ℕ) (r : Read X) (x : X) → in_limit b i r ≡ fine x → r ≡ fine x
limit_fine true i r x e = e
limit_fine false i r x e = absurd (cc)

ended_fine : (o : Option Record) (d : Doing) (j : ℕ) (x : Lot) → ended o d j ≡ fine x → (r : Record) × (o ≡ Some r) × (closed d r ≡ x)
ended_fine None d j x e = absurd (cc)
ended_fine (Some r) d j x e = (r, refl, same_fine e)

-- an object with its brackets, without a broken rule: its members, and the record that it has
pub object_fine : (t : List ℕ) (r : Read Doing) (j : ℕ) (x : Lot) → then r (λ d. ended (record_of d.draft) d j) ≡ fine x → (d : Doing) × (r ≡ fine d) × (a : Record) × (record_of d.draft ≡ Some a) × (closed d a ≡ x)
object_fine t r j x e =
    let c = then_fine (λ d. ended (record_of d.draft) d j) r x e in
    let a = ended_fine (record_of c.0.draft) c.0 j x c.2 in
    (c.0, c.1, a.0, a.1, a.2)

same_lot : (x y : List Record) (m n : ℕ) → x ≡ y → m ≡ n → ◌≡◌ {A = Lot} (record { records = x; weight = m }) (record { records = y; weight = n })
same_lot x y m n p q = rw (p, q) refl

lot_assoc : (a b c : Lot) → (a ⊕ b) ⊕ c ≡ a ⊕ (b ⊕ c)
lot_assoc a b c = same_lot _ _ _ _ (append_assoc a.records b.records c.records) (omega arith)

then_nothing : (a : Lot) → a ≡ a ⊕ nothing
then_nothing a = same_lot _ _ _ _ (sym (append-nil a.records)) (omega arith)

nothing_then : (a : Lot) → nothing ⊕ a ≡ a
nothing_then a = same_lot _ _ _ _ refl (omega arith)

module _ {X : Type 0} (t : List ℕ) (p : Level) (m : ℕ) (view : List Record → List X) (make : ℕ → ℕ → Members → X) (heavy : Members → ℕ) where
  -- a whole object of level p, the n-th of its array with its brace at i, left its record and those of its parts
  pub record Whole (n i : ℕ) (ms : Members) (d : Doing) (r : Record) : Type 0 where
    pub no_task : is_task d.draft.level ≡ false
    pub skips : d.draft.skipped ≡ skipped t ms
    pub weighs : (closed d r).weight ≡ heavy ms
    pub shows : Stands (suc m) view r d.parts.records (make n i ms)

  -- the entries of an array, where n came before, added these
  pub record Listed (vs : Entries) (n : ℕ) (d e : Doing) : Type 0 where
    pub lot : Lot
    pub adds : e.parts ≡ d.parts ⊕ lot
    pub shows : Shows m view lot.records (objects_from t make n vs)
    pub weighs : lot.weight ≡ weight_from heavy vs

  abbrev pub Objects : Type 0
  Objects = (n i : ℕ) (ms : Members) (d : Doing) (r : Record) → members_read t ms (begun p n i) ≡ fine d → record_of d.draft ≡ Some r → Whole n i ms d r

  abbrev pub Arrays : Type 0
  Arrays = (vs : Entries) (n : ℕ) (d e : Doing) → entries_read t vs p n d ≡ fine e → Listed vs n d e

  module _ (objects : Objects) where
    -- one object before others
    joined : (b : Bool) (r : Record) (ps rs : List Record) (x : X) (xs : List X) → Stands (suc m) view r ps x → Shows m view rs xs → Shows m view (leaves b false r ps ++ rs) (unless b x xs)
    joined true r ps rs x xs a c = c
    joined false r ps rs x xs a c = shows_more m view r ps rs x xs a c

    whole_joined : (n i : ℕ) (ms : Members) (d : Doing) (r : Record) (rs : List Record) (xs : List X) → Whole n i ms d r → Shows m view rs xs → Shows m view ((closed d r).records ++ rs) (unless (skipped t ms) (make n i ms) xs)
    whole_joined n i ms d r rs xs w c = rw (w.no_task, w.skips) (joined (skipped t ms) r d.parts.records rs (make n i ms) xs w.shows c)

    entry_listed : (v : Json) (n : ℕ) (o : Lot) (rs : List Record) (xs : List X) → entry_read t v p n ≡ fine o → Shows m view rs xs → Shows m view (o.records ++ rs) (object_before t make n v xs) × (o.weight ≡ weight_before heavy v)
    unfolding entry_read
    entry_listed (scalar x i) n o rs xs z c = absurd (let a = limit_fine (ltb n (limit p)) i _ o z in cc)
    entry_listed (array i vs j) n o rs xs z c = absurd (let a = limit_fine (ltb n (limit p)) i _ o z in cc)
    entry_listed (object i ms j) n o rs xs z c =
        let a = object_fine t (members_read t ms (begun p n i)) j o (limit_fine (ltb n (limit p)) i _ o z) in
        let w = objects n i ms a.0 a.2 a.1 a.3 in
        (rw (← a.4) (whole_joined n i ms a.0 a.2 rs xs w c), ap (λ y. y.weight) (sym a.4) ∙ w.weighs)

    pub arrays : Arrays
    unfolding entries_read objects_from weight_from
    arrays no_entry n d e z = record {
      lot = nothing;
      adds = ap (λ x. x.parts) (sym (same_fine z)) ∙ then_nothing d.parts;
      shows = shows_none m view;
      weighs = refl;
    }
    arrays (one_entry v vs) n d e z =
        let c = then_fine (λ o. entries_read t vs p (n + 1) (doing d.draft (d.parts ⊕ o))) (entry_read t v p n) e z in
        let a = arrays vs (n + 1) (doing d.draft (d.parts ⊕ c.0)) e c.2 in
        let b = entry_listed v n c.0 a.lot.records (objects_from t make (n + 1) vs) c.1 a.shows in
        record {
          lot = c.0 ⊕ a.lot;
          adds = a.adds ∙ lot_assoc d.parts c.0 a.lot;
          shows = b.0;
          weighs = ap (λ x. x + a.lot.weight) b.1 ∙ ap (λ x. weight_before heavy v + x) a.weighs;
        }

-- a name that did not come before did not come before that either
not_yet : (xs : List Bool) (i j : ℕ) → get_or (set xs i true) j false ≡ false → get_or xs j false ≡ false
not_yet [] i j e = refl
not_yet (x ∷ xs) zero zero e = absurd (cc)
not_yet (x ∷ xs) zero (suc j) e = e
not_yet (x ∷ xs) (suc i) zero e = e
not_yet (x ∷ xs) (suc i) (suc j) e = not_yet xs i j e

-- the parts of an object of level l, whose parts lie at the level below and are of this view
module _ {Y : Type 0} (t : List ℕ) (l : Level) (m : ℕ) (lower : List Record → List Y) (make : ℕ → ℕ → Members → Y) (heavy : Members → ℕ) where
  -- the parts so far are those of the array that came, or of none
  pub record Holds (s : Option Json) (d : Doing) : Type 0 where
    pub shows : Shows m lower d.parts.records (objects_from t make 0 (entries_of s))
    pub weighs : d.parts.weight ≡ weight_from heavy (entries_of s)
    pub counts : d.draft.entries ≡ count (entries_of s)
    pub once : seen_before (array_name l) d.draft ≡ false → d.parts ≡ nothing
    pub sized : length d.draft.seen ≡ 15

  -- another member leaves them
  left : (x : Key) (s : Option Json) (d : Doing) (h : Draft) → h.entries ≡ d.draft.entries → h.seen ≡ set d.draft.seen (key_code x) true → Holds s d → Holds s (doing h d.parts)
  left x s d h a b c = record {
    shows = c.shows;
    weighs = c.weighs;
    counts = a ∙ c.counts;
    once = λ e. c.once (not_yet d.draft.seen (key_code x) (key_code (array_name l)) (rw b at e));
    sized = ap (λ y. length y) b ∙ length-set d.draft.seen (key_code x) true ∙ c.sized;
  }

  module _ (arrays : part l (array_name l) ≡ Some (below l) → Arrays t (below l) m lower make heavy) where
    -- the array itself
    listed : (vs : Entries) (s : Option Json) (d : Doing) (b : Lot) → seen_before (array_name l) d.draft ≡ false → Listed t (below l) m lower make heavy vs 0 (noting (array_name l) d) (doing (with_entries (count vs) (noted (array_name l) d.draft)) b) → Holds s d → (i j : ℕ) → Holds (Some (array i vs j)) (doing (with_entries (count vs) (noted (array_name l) d.draft)) b)
    listed vs s d b f a c i j =
        let e : b ≡ a.lot = a.adds ∙ ap (λ y. y ⊕ a.lot) (c.once f) ∙ nothing_then a.lot in
        record {
          shows = rw e a.shows;
          weighs = rw e a.weighs;
          counts = refl;
          once = λ z. absurd (let y = get_or-set_same d.draft.seen (key_code (array_name l)) true false (let k = key_small (array_name l) in let n = c.sized in omega arith) in cc);
          sized = length-set d.draft.seen (key_code (array_name l)) true ∙ c.sized;
        }

    holds_step : (v : Json) (d : Doing) (o : Option Key) (e : Doing) (s : Option Json) → d.draft.level ≡ l → Does t l v d o e → Holds s d → Holds (or_else (value_if (is_key o (array_name l)) v) s) e
    holds_step v d o e s q (aside z) h = rw (not_known l o (array_name l) z (array_known l)) (record { shows = h.shows; weighs = h.weighs; counts = h.counts; once = h.once; sized = h.sized })
    holds_step v d o e s q (lists {i} {j} {vs} {b} c f a z) h = rw (is_itself (array_name l), a) (listed vs s d b f (arrays c vs 0 _ _ z) h i j)
    holds_step v d o e s q (remarks {key} z c) h = rw (other_sort key (array_name l) 1 0 z (array_sort l) refl) (left key s d _ refl refl h)
    holds_step v d o e s q (for_vendor c) h = rw (other_sort Key.Vendor (array_name l) 3 0 refl (array_sort l) refl) (left Key.Vendor s d _ refl refl h)
    holds_step v d o e s q (excepts z c) h = rw (other_sort Key.Exception (array_name l) 2 0 refl (array_sort l) refl) (left Key.Exception s d _ refl refl h)
    holds_step v d o e s q (says c) h = rw (other_sort (word_name l) (array_name l) 4 0 (word_sort l) (array_sort l) refl) (left (word_name l) s d _ refl refl h)

    pub holds : (n i : ℕ) (ms : Members) (d : Doing) → members_read t ms (begun l n i) ≡ fine d → Holds (named t (array_name l) ms) d
    unfolding objects_from weight_from count
    holds n i ms d z = kept t l (array_name l) Holds holds_step ms (begun l n i) d refl z (record {
      shows = shows_none m lower;
      weighs = refl;
      counts = refl;
      once = λ e. refl;
      sized = refl;
    })
