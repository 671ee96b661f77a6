-- The texts of faults and limits, and the answers to lines that are turned away.
use Rattle.std.specs.Prelude.{ℕ, List, ◌++◌, codes, decimal}
use Rattle.auction_text.specs.{Causes.{cause_text}, InputLimits.{MOST_RECORDS}, ReadFault.{ReadFault}}
use Rattle.auction_text.specs.ReadFault.TheVariants as fault
use Rattle.byte_texts.specs.Labels.{labelled}

-- what is wrong with the record of this number
abbrev pub record_text : ℕ → List ℕ → List ℕ
record_text place words = labelled (codes "record ") place ++ codes ": " ++ words

abbrev pub fault_text : ReadFault → List ℕ
fault_text (fault.Line place cause) = record_text place (cause_text cause)
fault_text (fault.Worker place) = record_text place (codes "no such worker")
fault_text fault.Read = codes "input cannot be read"
fault_text fault.Memory = codes "no memory"
fault_text fault.Long = labelled (codes "more than ") MOST_RECORDS ++ codes " records"

-- the words of a worker's limit
abbrev pub limit_text : ℕ → List ℕ
limit_text limit = labelled (codes "more than ") limit ++ codes " requests for a worker"

-- the answer in these words to a line of this worker, with the index that the worker's next request
-- will have
abbrev pub answer_line : ℕ → ℕ → List ℕ → List ℕ
answer_line worker index words =
    decimal worker ++ labelled (codes ",") index ++ codes ",fault " ++ words ++ codes "\n"
