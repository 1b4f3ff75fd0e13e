-- A lock over a scanner that keeps to its points keeps to them too.
use Rattle.std.specs.Prelude.{not}
use Rattle.std.proofs.lemmas.Bool.{and_parts}
use Rattle.scanner.specs.Meaning.{Catalogue, State, KeepsToPoints}
use Rattle.lock.specs.Bans.{Forbidden, locked}

pub locked_keeps : (k : Catalogue) (st : State) (banned : Forbidden) → KeepsToPoints k st → KeepsToPoints (locked k banned) st
locked_keeps k st banned h =
    record {
      formats = h.formats;
      attributes = h.attributes;
      values = λ p v o. h.values p v (and_parts (k.offers_value p v) (not (banned p.attribute v)) o).0;
      enabled = h.enabled;
      current = h.current;
    }
