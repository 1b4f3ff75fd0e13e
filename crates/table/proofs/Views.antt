-- A task's records, each before its parts, and the objects that they stand for: a list of objects in a row, and what each
-- view of the records makes of it.
use Rattle.std.proofs.Common.{◌≡◌, ℕ, suc, ◌<◌, ◌≤◌, true, false, cond, ltb, List, [], ◌∷◌, ◌++◌, Option, refl, sym, ap, ◌∙◌, arith}
use Rattle.std.proofs.lemmas.Bool.Decides.{nat_tests}
use Rattle.std.proofs.lemmas.List.{append_assoc, append-nil}
use Rattle.text.specs.declared.token.Placed.{Placed}
use Rattle.names.specs.declared.kinds.Source.{Source}
use Rattle.names.specs.declared.kinds.PixelFormat.{PixelFormat}
use Rattle.names.specs.declared.kinds.Attribute.{Attribute}
use Rattle.names.specs.declared.kinds.Value.{Value}
use Rattle.table.specs.declared.level.Level.{Level}
use Rattle.table.specs.declared.record.Head.{Head}
use Rattle.table.specs.declared.record.Verb.{Verb}
use Rattle.table.specs.declared.record.Wanted.{Wanted}
use Rattle.table.specs.declared.record.Record.{Record}
use Rattle.table.specs.Form.{default_weight}
use Rattle.table.specs.TaskOf.{default_parts}
use Rattle.table.specs.Views.{values_in, attributes_in, formats_in, sources_in, streams_in, actions_in, depth, Finds, GoThrough}

-- records that all lie deeper than this
abbrev pub Deeper : ℕ → List Record → Type 0
Deeper n [] = Unit {0}
Deeper n (r ∷ rs) = (n < depth r) × Deeper n rs

-- the first lies no deeper than this, if there is one
abbrev pub Shallow : ℕ → List Record → Type 0
Shallow n [] = Unit {0}
Shallow n (r ∷ rs) = depth r ≤ n

both_deeper : (n : ℕ) (ps rs : List Record) → Deeper n ps → Deeper n rs → Deeper n (ps ++ rs)
both_deeper n [] rs a b = b
both_deeper n (r ∷ ps) rs a b = (a.0, both_deeper n ps rs a.1 b)

less_deep : (n : ℕ) (rs : List Record) → Deeper (suc n) rs → Deeper n rs
less_deep n [] a = tt
less_deep n (r ∷ rs) a = (omega arith, less_deep n rs a.1)

both_shallow : (n : ℕ) (ps rs : List Record) → Shallow n ps → Shallow n rs → Shallow n (ps ++ rs)
both_shallow n [] rs a b = b
both_shallow n (r ∷ ps) rs a b = a

more_shallow : (n : ℕ) (rs : List Record) → Shallow n rs → Shallow (suc n) rs
more_shallow n [] a = tt
more_shallow n (r ∷ rs) a = omega arith

module _ {X : Type 0} where
  ends : (n : ℕ) (view : List Record → List X) → Finds (suc n) view → (rs : List Record) → Shallow n rs → view rs ≡ []
  ends n view f [] s = f.none
  ends n view f (r ∷ rs) s = f.ends r rs (omega arith)

  passes : (n : ℕ) (view : List Record → List X) → Finds n view → (ps rs : List Record) → Deeper n ps → view (ps ++ rs) ≡ view rs
  passes n view f [] rs d = refl
  passes n view f (r ∷ ps) rs d = f.passes r (ps ++ rs) d.0 ∙ passes n view f ps rs d.1

  -- a record with its parts stands for this object
  pub record Stands (n : ℕ) (view : List Record → List X) (r : Record) (ps : List Record) (x : X) : Type 0 where
    pub lies : depth r ≡ n
    pub deeper : Deeper n ps
    pub seen : (rest : List Record) → Shallow n rest → view (r ∷ (ps ++ rest)) ≡ x ∷ view rest

  -- records stand for these objects, which lie at this depth one after another
  pub record Shows (m : ℕ) (view : List Record → List X) (rs : List Record) (xs : List X) : Type 0 where
    pub deeper : Deeper m rs
    pub shallow : Shallow (suc m) rs
    pub empty : (l : Level) → default_weight l rs ≡ default_parts l xs
    pub seen : (rest : List Record) → Shallow (suc m) rest → view (rs ++ rest) ≡ xs ++ view rest

  pub shows_none : (m : ℕ) (view : List Record → List X) → Shows m view [] []
  shows_none m view = record { deeper = tt; shallow = tt; empty = λ l. refl; seen = λ rest s. refl }

  pub shows_more : (m : ℕ) (view : List Record → List X) (r : Record) (ps rs : List Record) (x : X) (xs : List X) → Stands (suc m) view r ps x → Shows m view rs xs → Shows m view ((r ∷ ps) ++ rs) (x ∷ xs)
  shows_more m view r ps rs x xs a b = record {
    deeper = (let e = a.lies in omega arith, both_deeper m ps rs (less_deep m ps a.deeper) b.deeper);
    shallow = let e = a.lies in omega arith;
    empty = λ l. refl;
    seen = λ rest s.
        ap (λ z. view (r ∷ z)) (append_assoc ps rs rest)
        ∙ a.seen (rs ++ rest) (both_shallow (suc m) rs rest b.shallow s)
        ∙ ap (λ z. x ∷ z) (b.seen rest s);
  }

  pub shows_all : (m : ℕ) (view : List Record → List X) (rs : List Record) (xs : List X) → view [] ≡ [] → Shows m view rs xs → view rs ≡ xs
  shows_all m view rs xs e a = ap view (sym (append-nil rs)) ∙ a.seen [] tt ∙ ap (λ z. xs ++ z) e ∙ append-nil xs

-- an object by the objects that are its parts
pub stands : {X Y : Type 0} (n : ℕ) (view : List Record → List X) (lower : List Record → List Y) (make : List Y → X) (r : Record) (ps : List Record) (ys : List Y) → Finds n view → Finds (suc n) lower → depth r ≡ n → ((rs : List Record) → view (r ∷ rs) ≡ make (lower rs) ∷ view rs) → Shows n lower ps ys → Stands n view r ps (make ys)
stands n view lower make r ps ys f g d h s = record {
  lies = d;
  deeper = s.deeper;
  seen = λ rest a.
      h (ps ++ rest)
      ∙ ap (λ z. make z ∷ view (ps ++ rest)) (s.seen rest (more_shallow n rest a) ∙ ap (λ z. ys ++ z) (ends n lower g rest a) ∙ append-nil ys)
      ∙ ap (λ z. make ys ∷ z) (passes n view f ps rest s.deeper);
}

-- what holds of each record
by_record : (P : Record → Type 0) → P Record.Vacant → ((h : Head) (w : Option (Placed Verb)) (n : ℕ) → P (Record.Action h w n)) → ((h : Head) → P (Record.Stream h)) → ((h : Head) (w : Option (Placed (Wanted Source))) → P (Record.Source h w)) → ((h : Head) (w : Option (Placed (Wanted PixelFormat))) → P (Record.PixelFormat h w)) → ((h : Head) (w : Placed (Option Attribute)) → P (Record.Attribute h w)) → ((h : Head) (w : Placed (Option Value)) → P (Record.Value h w)) → (r : Record) → P r
by_record P z a t s f b v Record.Vacant = z
by_record P z a t s f b v (Record.Action h w n) = a h w n
by_record P z a t s f b v (Record.Stream h) = t h
by_record P z a t s f b v (Record.Source h w) = s h w
by_record P z a t s f b v (Record.PixelFormat h w) = f h w
by_record P z a t s f b v (Record.Attribute h w) = b h w
by_record P z a t s f b v (Record.Value h w) = v h w

-- what a view makes of a record, by how deep it lies
abbrev At : {X : Type 0} → ℕ → (List Record → List X) → Record → Type 0
At n view r = (rs : List Record) → view (r ∷ rs) ≡ cond (ltb (depth r) n) [] (cond (ltb n (depth r)) (view rs) (view (r ∷ rs)))

finds : {X : Type 0} (n : ℕ) (view : List Record → List X) → view [] ≡ [] → ((r : Record) → At n view r) → Finds n view
finds n view e h = record {
  none = e;
  ends = λ r rs l. h r rs ∙ (let b : ltb (depth r) n ≡ true = grind (arith, nat_tests) in rw b refl);
  passes = λ r rs l. h r rs ∙ (let a : ltb (depth r) n ≡ false = grind (arith, nat_tests) in let b : ltb n (depth r) ≡ true = grind (arith, nat_tests) in rw (a, b) refl);
}

pub finds_values : Finds 6 values_in
finds_values = finds 6 values_in refl (by_record (At 6 values_in) (λ rs. refl) (λ h w n rs. refl) (λ h rs. refl) (λ h w rs. refl) (λ h w rs. refl) (λ h w rs. refl) (λ h w rs. refl))

pub finds_attributes : Finds 5 attributes_in
finds_attributes = finds 5 attributes_in refl (by_record (At 5 attributes_in) (λ rs. refl) (λ h w n rs. refl) (λ h rs. refl) (λ h w rs. refl) (λ h w rs. refl) (λ h w rs. refl) (λ h w rs. refl))

pub finds_formats : Finds 4 formats_in
finds_formats = finds 4 formats_in refl (by_record (At 4 formats_in) (λ rs. refl) (λ h w n rs. refl) (λ h rs. refl) (λ h w rs. refl) (λ h w rs. refl) (λ h w rs. refl) (λ h w rs. refl))

pub finds_sources : Finds 3 sources_in
finds_sources = finds 3 sources_in refl (by_record (At 3 sources_in) (λ rs. refl) (λ h w n rs. refl) (λ h rs. refl) (λ h w rs. refl) (λ h w rs. refl) (λ h w rs. refl) (λ h w rs. refl))

pub finds_streams : Finds 2 streams_in
finds_streams = finds 2 streams_in refl (by_record (At 2 streams_in) (λ rs. refl) (λ h w n rs. refl) (λ h rs. refl) (λ h w rs. refl) (λ h w rs. refl) (λ h w rs. refl) (λ h w rs. refl))

pub finds_actions : Finds 1 actions_in
finds_actions = finds 1 actions_in refl (by_record (At 1 actions_in) (λ rs. refl) (λ h w n rs. refl) (λ h rs. refl) (λ h w rs. refl) (λ h w rs. refl) (λ h w rs. refl) (λ h w rs. refl))

-- below the values there is nothing
pub none_in : List Record → List (Unit {0})
none_in rs = []

pub finds_none : Finds 7 none_in
unfolding none_in
finds_none = finds 7 none_in refl (by_record (At 7 none_in) (λ rs. refl) (λ h w n rs. refl) (λ h rs. refl) (λ h w rs. refl) (λ h w rs. refl) (λ h w rs. refl) (λ h w rs. refl))

pub go_through : GoThrough
go_through = record {
  actions = finds_actions;
  streams = finds_streams;
  sources = finds_sources;
  formats = finds_formats;
  attributes = finds_attributes;
  values = finds_values;
  an_action = λ h w n rs. refl;
  a_stream = λ h rs. refl;
  a_source = λ h w rs. refl;
  a_format = λ h w rs. refl;
  an_attribute = λ h w rs. refl;
  a_value = λ h w rs. refl;
}
