use Rattle.std.proofs.Common.{◌≡◌, ◌<◌, ◌*◌, ◌^◌, take}
use Rattle.format.specs.Text.{decimal_value}
use Rattle.lines.proofs.count.number_in.Given as goal

-- what the characters passed say
abbrev pub invariant-loop-c : goal.invariant-loop-c
invariant-loop-c l = (l.sum ≡ decimal_value 0 (take l.c-index l.line)) × (l.sum < 256 * 16 ^ l.c-index)
