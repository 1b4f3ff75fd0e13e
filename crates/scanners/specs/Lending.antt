-- What the flatbed becomes when settings that it lent have been written.
use Rattle.std.specs.Prelude.{cond, Option}
use Rattle.std.specs.Borrow.{LendsIf, MutBor, Fml}
use Rattle.names.specs.declared.kinds.Source.{Source}
use Rattle.names.specs.declared.kinds.PixelFormat.{PixelFormat}
use Rattle.names.specs.Same.{same_format}
use Rattle.scanners.specs.declared.flatbed.Settings.{Settings}
use Rattle.scanners.specs.declared.flatbed.Flatbed.{Flatbed}
use Rattle.scanners.specs.contracts.flatbed.Settings as settings
use Rattle.scanners.specs.contracts.flatbed.Flatbed as flatbed

-- the flatbed with other settings for one of its two formats
abbrev pub with_settings : Flatbed → PixelFormat → Settings → Flatbed
with_settings x f w = cond (same_format f PixelFormat.Gray8) (record x { gray = w }) (record x { color = w })

abbrev pub LendsSettings : MutBor Flatbed → Source → PixelFormat → Option (MutBor Settings) → Fml
LendsSettings x s f r = LendsIf flatbed.the_row settings.the_row x r (with_settings x.now f) x.now
