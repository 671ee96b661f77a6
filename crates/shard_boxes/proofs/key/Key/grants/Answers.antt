use Rattle.shard_boxes.proofs.GrantLemmas.{key_free, key_own, key_seen}
use Rattle.shard_boxes.proofs.key.Key.grants.Goals as goal

pub returns-clause-free : goal.returns-clause-free
returns-clause-free g c = key_free _ _ c.self.inside.worker c.self.inside.grants.items c.args.self c.self.view_is c.self.invariant.2 c.requires

pub returns-clause-own : goal.returns-clause-own
returns-clause-own g c = λ s d low. key_own _ _ c.self.inside.worker c.self.inside.grants.items c.args.self s d c.self.view_is c.self.invariant.2 low

pub returns-clause-seen : goal.returns-clause-seen
returns-clause-seen g c = λ s d low. key_seen _ _ c.self.inside.worker c.self.inside.grants.items c.args.self s d c.self.view_is c.self.invariant.2 low
