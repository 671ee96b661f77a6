-- The events of two acts in turn, and what their looks show.
use Rattle.std.proofs.Common.{◌≡◌, ℕ, ◌<◌, List, [], ◌∷◌, length, Option, Some, None, option_map, refl, sym, ap, subst, ◌∙◌, arith}
use Rattle.item_shards.specs.Contents.{Contents, after_act, after_acts}
use Rattle.item_shards.specs.Looking.{IsTrueAct, IsTrueOf, event_at, events_of, shown_in}
use Rattle.item_shards.specs.ShardContents.{contents, clock, IsSameShard}
use Rattle.item_shards.specs.declared.shard.{Shard.{Shard}, acts.Act.{TheVariants.{Look}, Act}}
use Rattle.item_shards.specs.declared.shard.acts.Look.{Look as LookedAt}
use Rattle.item_shards.specs.declared.shard.acts.Look.TheVariants as look
use Rattle.shard_boxes.specs.Helds.{MayGoBack}
use Rattle.shard_boxes.specs.inner.Passing.{MayPut}
use Rattle.shard_boxes.specs.Lines.{Line, AreTrueOf, MayFollow, acts_in, first_two, line_of, seen_line, after_line}
use Rattle.shard_boxes.specs.States.{ShardState, state_of}
use Rattle.shard_boxes.specs.declared.line.Line.{Line as MadeLine}

-- what a look shows of contents is true of them
shown_true : (contents : Contents) (looked_at : LookedAt) → IsTrueOf contents (shown_in contents looked_at)
shown_true contents look.Nothing = tt
shown_true contents looked_at = refl

event_true : (contents : Contents) (act : Act) → IsTrueAct contents (event_at contents act)
event_true contents (Look looked_at) = shown_true contents looked_at
event_true contents act = tt

pub looks_true : (contents : Contents) (acts : List Act) → AreTrueOf contents (acts_in (first_two (events_of contents acts)))
looks_true contents [] = (tt, (tt, tt))
looks_true contents (act ∷ []) = (event_true contents act, (tt, tt))
looks_true contents (act ∷ other ∷ acts) = (event_true contents act, (event_true (after_act contents (event_at contents act)) other, tt))

-- two acts have two events
pub two_events : (contents : Contents) (acts : List Act) → length acts ≡ 2 → acts_in (first_two (events_of contents acts)) ≡ events_of contents acts
two_events contents (act ∷ other ∷ []) two = refl
two_events contents (act ∷ other ∷ more ∷ acts) two = absurd (omega arith)
two_events contents acts two = absurd (cc)

-- the line of a caller may be put as contracts see it: its looks are true
pub may_put : (taken now : ShardState) (line : Option MadeLine) → MayGoBack taken now line → MayPut taken now (option_map (seen_line taken) line)
may_put taken now None same = same
may_put taken now (Some line) may = (record { found = may.0; later = may.1; looks = looks_true taken.contents line.acts }, may.2)

-- the line of two acts on a shard may follow, and the shard after the acts is the one after the line
module _ (old : Shard) (number index : ℕ) (acts : List Act) (line : Line) (is : line ≡ line_of number index acts old) where
  pub line_follows : clock old < number → MayFollow (state_of old) line
  line_follows later = subst (MayFollow (state_of old)) (sym is) (record { found = refl; later = later; looks = looks_true (contents old) acts })

  pub line_done : (new : Shard) → length acts ≡ 2 → IsSameShard old new → contents new ≡ after_acts (contents old) (events_of (contents old) acts) → clock new ≡ number
      → state_of new ≡ after_line (state_of old) line
  line_done new two same acted clocked =
      let made : ShardState = after_line (state_of old) (line_of number index acts old) in
      let after : state_of new ≡ made = λ i. record {
        number = same.number i;
        shards = same.shards i;
        opening = same.opening i;
        clock = clocked i;
        contents = (acted ∙ ap (after_acts (contents old)) (sym (two_events (contents old) acts two))) i;
      } in
      after ∙ ap (after_line (state_of old)) (sym is)
