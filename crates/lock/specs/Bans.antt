-- What a lock bans, and what is left to offer.
use Rattle.std.specs.Prelude.{◌≡◌, ℕ, ◌+◌, Bool, false, cond, not, ◌&&◌, ◌||◌, List, length, ℤ, is_some, is_ok, Some, None, Option, Result, int_le, nat_le}
use Rattle.std.specs.List.{list_any}
use Rattle.names.specs.declared.kinds.Attribute.{Attribute}
use Rattle.names.specs.declared.kinds.Word.{Word}
use Rattle.names.specs.declared.kinds.Value.{Value}
use Rattle.names.specs.declared.kinds.Value.TheVariants as values
use Rattle.names.specs.Same.{same_attribute, same_word}
use Rattle.scanner.specs.Meaning.{Catalogue}
use Rattle.lock.specs.declared.ban.Ban.{Ban}
use Rattle.lock.specs.declared.ban.Banned.{Banned}
use Rattle.lock.specs.declared.ban.Banned.TheVariants as kinds
use Rattle.scanners.specs.declared.fault.FillFault.{FillFault}
use Rattle.scanners.specs.Faults.{first_fault, told}

-- as many bans as a lock has room for
abbrev pub most_bans : ℕ
most_bans = 16

-- which values of which attribute are forbidden
abbrev pub Forbidden : Type 0
Forbidden = Attribute → Value → Bool

-- a word bans itself, and a span the numbers from its low end to its high one
abbrev pub is_banned : Banned → Value → Bool
is_banned (kinds.Word w) (values.Word v) = same_word w v
is_banned (kinds.Word w) (values.Number n) = false
is_banned (kinds.Span low high) (values.Word v) = false
is_banned (kinds.Span low high) (values.Number n) = int_le low n && int_le n high

-- what one ban forbids
abbrev pub forbids : Ban → Forbidden
forbids b a v = same_attribute b.attribute a && is_banned b.values v

-- what some ban of a list forbids
abbrev pub forbidden : List Ban → Forbidden
forbidden bans a v = list_any (λ b. forbids b a v) bans

-- A catalogue under a lock: what is forbidden is not offered, and all else is as below.
abbrev pub locked : Catalogue → Forbidden → Catalogue
locked k banned = record {
  offers_source = k.offers_source;
  offers_format = k.offers_format;
  power_on = k.power_on;
  offers_value = λ p v. k.offers_value p v && not (banned p.attribute v);
  home_source = k.home_source;
  home_format = k.home_format;
}

-- one word of an attribute
abbrev pub a_word : Attribute → Word → Forbidden
a_word a w = forbids (record { attribute = a; values = kinds.Word w })

-- the numbers of an attribute from low to high
abbrev pub a_span : Attribute → ℤ → ℤ → Forbidden
a_span a low high = forbids (record { attribute = a; values = kinds.Span low high })

-- what the ban of a word forbids, given by numbers; none where a number is unknown
abbrev pub word_ban : Option Attribute → Option Word → Option Forbidden
word_ban (Some a) (Some w) = Some (a_word a w)
word_ban (Some a) None = None
word_ban None w = None

-- what the ban of a span forbids; none where the attribute's number is unknown or low is above high
abbrev pub span_ban : Option Attribute → ℤ → ℤ → Option Forbidden
span_ban (Some a) low high = cond (int_le low high) (Some (a_span a low high)) None
span_ban None low high = None

-- what a call forbids besides, once it is carried out
abbrev pub besides : Option Forbidden → Forbidden
besides None a v = false
besides (Some banned) a v = banned a v

-- A ban call: refused for a bad number, then for want of room, and then nothing changes; else it forbids its values besides.
pub record Bans (call : Option Forbidden) (old new : List Ban) (answer : Result (Unit {0}) FillFault) : Type 0 where
  pub says : answer ≡ told (first_fault (not (is_some call)) false false (nat_le most_bans (length old)))
  pub count : length new ≡ cond (is_ok answer) (length old + 1) (length old)
  pub after : (a : Attribute) (v : Value) → forbidden new a v ≡ (forbidden old a v || (is_ok answer && besides call a v))

-- whether a lock with these bans has room for another
abbrev pub room_for : List Ban → Result (Unit {0}) FillFault
room_for bans = told (first_fault false false false (nat_le most_bans (length bans)))

-- what one or the other forbids
abbrev pub either : Forbidden → Forbidden → Forbidden
either x y a v = x a v || y a v

-- A pile of two locks offers what one lock would that bans what either bans.
abbrev pub PileBansTheUnion : Type 0
PileBansTheUnion = (k : Catalogue) (inner outer : Forbidden) → locked (locked k inner) outer ≡ locked k (either inner outer)

-- It does not matter which of the two lies on top.
abbrev pub PileInAnyOrder : Type 0
PileInAnyOrder = (k : Catalogue) (inner outer : Forbidden) → locked (locked k inner) outer ≡ locked (locked k outer) inner
