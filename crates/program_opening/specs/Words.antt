-- What the program's words say of its options, by the parser of words (`clap`).
use Rattle.std.specs.Prelude.{◌≡◌, ◌≤◌, ◌⊎◌, ◌&&◌, ◌*◌, ℕ, Bool, true, false, not, List, [], ◌∷◌, Option, None, Some, fold, codes, option_map, string_bytes, if◌then◌else◌}
use Rattle.auction_rows.specs.declared.limits.TheConstants.{MOST_HOT, MOST_SHARDS, MOST_WORKERS}
use Rattle.clap.specs.{Simple.{App, with_rule}, Walk.{Rule}}
use Rattle.program_options.specs.Options.{file_rule, flag_rule, is_set, named_rule, number_of, versioned_program}
use Rattle.program_options.specs.declared.options.TheConstants.{MOST_ASKED}
use Rattle.program_opening.specs.declared.options.Options.{Options}

-- the program's options
abbrev pub option_rules : List Rule
option_rules =
    named_rule (codes "workers") 1 MOST_WORKERS (codes "1")
    ∷ named_rule (codes "shards") 1 MOST_SHARDS (codes "4")
    ∷ named_rule (codes "joined") 1 MOST_ASKED (codes "64")
    ∷ named_rule (codes "split") 1 MOST_ASKED (codes "64")
    ∷ named_rule (codes "threshold") 1 MOST_ASKED (codes "8")
    ∷ named_rule (codes "hot") 0 MOST_HOT (codes "8")
    ∷ flag_rule (codes "fast")
    ∷ named_rule (codes "users") 0 MOST_ASKED (codes "100")
    ∷ named_rule (codes "categories") 0 MOST_ASKED (codes "10")
    ∷ named_rule (codes "live") 0 MOST_ASKED (codes "0")
    ∷ file_rule (codes "faults")
    ∷ file_rule (codes "log")
    ∷ flag_rule (codes "history")
    ∷ flag_rule (codes "rows")
    ∷ flag_rule (codes "report")
    ∷ []

abbrev pub program : App
program = fold with_rule (versioned_program (codes "rubis_auction")) option_rules

-- A word says whether a line with a fault ends the input. Without one it does not; it can be
-- answered if requests are answered while they come.
abbrev pub SaysEnd : Option (List ℕ) → ℕ → Bool → Type 0
SaysEnd None live ends = ends ≡ false
SaysEnd (Some how) live ends =
    ((how ≡ codes "end") × (ends ≡ true))
    ⊎ ((how ≡ codes "answer") × ((1 ≤ live) × (ends ≡ false)))

-- whether --fast says the number of an option: it is set, and the option is not given
abbrev pub is_fast : (List ℕ → Option (List ℕ)) → (List ℕ → Bool) → List ℕ → Bool
is_fast text given id = is_set (text (codes "fast")) && not (given id)

-- the number of an option: this one if --fast says it, or else that of its text
abbrev pub number_or : ℕ → (List ℕ → Option (List ℕ)) → (List ℕ → Bool) → List ℕ → ℕ
number_or fast text given id = if is_fast text given id then fast else number_of (text id)

-- Texts say the options: each number and flag by its own text, but for three numbers that --fast
-- says too; the log is the file that is named.
pub record SayOptions (text value : List ℕ → Option (List ℕ)) (given : List ℕ → Bool)
    (options : Options) : Type 0 where
  pub workers : options.workers ≡ number_of (text (codes "workers"))
  pub shards : options.shards ≡ number_or (4 * options.workers) text given (codes "shards")
  pub joined : options.joined ≡ number_or 64 text given (codes "joined")
  pub split : options.split ≡ number_or 4096 text given (codes "split")
  pub threshold : options.threshold ≡ number_of (text (codes "threshold"))
  pub hot : options.hot ≡ number_of (text (codes "hot"))
  pub users : options.users ≡ number_of (text (codes "users"))
  pub categories : options.categories ≡ number_of (text (codes "categories"))
  pub live : options.live ≡ number_of (text (codes "live"))
  pub ends_at_fault : SaysEnd (value (codes "faults")) options.live options.ends_at_fault
  pub log : option_map string_bytes options.log ≡ value (codes "log")
  pub history : options.history ≡ is_set (text (codes "history"))
  pub rows : options.rows ≡ is_set (text (codes "rows"))
  pub report : options.report ≡ is_set (text (codes "report"))
