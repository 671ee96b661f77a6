-- The program's options of numbers.
use Rattle.std.proofs.Common.{codes, refl}
use Rattle.auction_rows.specs.declared.limits.TheConstants.{MOST_HOT, MOST_SHARDS, MOST_WORKERS}
use Rattle.program_options.{proofs.NumberOptions.{has_number}, specs.Words.{HasNumberOption}}
use Rattle.program_options.specs.declared.options.TheConstants.{MOST_ASKED}
use Rattle.program_opening.specs.Words.{program}

pub workers : HasNumberOption program (codes "workers") 1 MOST_WORKERS
workers = has_number program (codes "workers") 1 MOST_WORKERS (codes "1") 1 (λ e. absurd cc) refl refl

pub shards : HasNumberOption program (codes "shards") 1 MOST_SHARDS
shards = has_number program (codes "shards") 1 MOST_SHARDS (codes "4") 1 (λ e. absurd cc) refl refl

pub joined : HasNumberOption program (codes "joined") 1 MOST_ASKED
joined = has_number program (codes "joined") 1 MOST_ASKED (codes "64") 1 (λ e. absurd cc) refl refl

pub split : HasNumberOption program (codes "split") 1 MOST_ASKED
split = has_number program (codes "split") 1 MOST_ASKED (codes "64") 1 (λ e. absurd cc) refl refl

pub threshold : HasNumberOption program (codes "threshold") 1 MOST_ASKED
threshold = has_number program (codes "threshold") 1 MOST_ASKED (codes "8") 1 (λ e. absurd cc) refl refl

pub hot : HasNumberOption program (codes "hot") 0 MOST_HOT
hot = has_number program (codes "hot") 0 MOST_HOT (codes "8") 1 (λ e. absurd cc) refl refl

pub users : HasNumberOption program (codes "users") 0 MOST_ASKED
users = has_number program (codes "users") 0 MOST_ASKED (codes "100") 1 (λ e. absurd cc) refl refl

pub categories : HasNumberOption program (codes "categories") 0 MOST_ASKED
categories = has_number program (codes "categories") 0 MOST_ASKED (codes "10") 1 (λ e. absurd cc) refl refl

pub live : HasNumberOption program (codes "live") 0 MOST_ASKED
live = has_number program (codes "live") 0 MOST_ASKED (codes "0") 1 (λ e. absurd cc) refl refl
