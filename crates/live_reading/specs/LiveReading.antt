-- Records, as lines say them.
use Rattle.std.specs.Prelude.{List, map}
use Rattle.live_reading.specs.declared.live_lines.Said.{Said}
use Rattle.live_reading.specs.declared.live_lines.Said.TheVariants as says
use Rattle.record_reading.specs.declared.record.Record.{Record}

-- records without a fault, as lines say them
abbrev pub records_said : List Record → List Said
records_said all = map says.Record all
