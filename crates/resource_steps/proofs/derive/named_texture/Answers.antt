use Rattle.resource_steps.proofs.DeriveLaws.{named_here, named_onward, named_ended}
use Rattle.resource_steps.proofs.derive.named_texture.Goals as goal

pub returns-then-w-texture : goal.returns-then-w-texture
returns-then-w-texture c = search named_here

pub loop-w-preserved : goal.loop-w-preserved
loop-w-preserved c = search named_onward

pub returns : goal.returns
returns c = search named_ended
