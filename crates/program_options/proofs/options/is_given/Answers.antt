use Rattle.std.proofs.Common.{◌≡◌, ◌∙◌, Bool, true, false, Option, Some, None, ap, refl}
use Rattle.std.specs.Option.{option_eq}
use Rattle.clap.specs.declared.parser.matches.ValueSource.{ValueSource}
use Rattle.clap.specs.declared.parser.matches.ValueSource.TheVariants.{DefaultValue, CommandLine}
use Rattle.program_options.specs.Options.{is_from_words}
use Rattle.program_options.proofs.options.is_given.Goals as goal

from_words : (same : ValueSource → ValueSource → Bool) → same DefaultValue CommandLine ≡ false → same CommandLine CommandLine ≡ true → (source : Option ValueSource)
    → option_eq same source (Some CommandLine) ≡ is_from_words source
from_words same other equal None = refl
from_words same other equal (Some DefaultValue) = other
from_words same other equal (Some CommandLine) = equal

pub returns : goal.returns
returns c = c.eq.ensures ∙ from_words _ refl refl c.value_source.result ∙ ap is_from_words c.value_source.ensures
