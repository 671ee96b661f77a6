use Rattle.std.proofs.Common.{map, refl, string_bytes}
use Rattle.clap.specs.{Matches.{has_subcommand}, Simple.{app_of}}
use Rattle.program_options.proofs.WordLemmas.{given_found, no_fault, numbers_parsed, only_memory, texts_found, values_found}
use Rattle.program_options.proofs.words.parse_words.Goals as goal

pub returns-in-Ok-clause-finds : goal.returns-in-Ok-clause-finds
returns-in-Ok-clause-finds c = λ free.
    let old = c.args.command in
    let words = map string_bytes c.args.words.now in record {
      texts = texts_found (app_of old) free words _ c.in-Ok.matches c.in-Ok.ensures.ok.2 refl;
      values = values_found (app_of old) free words _ c.in-Ok.matches c.in-Ok.ensures.ok.2 refl;
      given = given_found (app_of old) free words _ c.in-Ok.matches c.in-Ok.ensures.ok.2 refl;
      numbers = numbers_parsed (app_of old) free old c.try_get_matches_from_mut.new.self c.in-Ok.matches (has_subcommand c.in-Ok.matches) c.in-Ok.ensures.ok.1 c.in-Ok.ensures.fails c.in-Ok.ensures.after refl;
      taken = no_fault (app_of old) free words _ (c.in-Ok.ensures.kinds free) refl;
    }

pub returns-clause-memory : goal.returns-clause-memory
returns-clause-memory c = λ free taken. c.parse_fault.ensures
    (only_memory (app_of c.args.command) free (map string_bytes c.args.words.now) _ c.in-Err.error (c.in-Err.ensures.kinds free) refl taken)
