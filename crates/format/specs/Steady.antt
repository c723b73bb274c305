-- Document 02, Ask 2: a mask that changes under one issue.
use Rattle.std.specs.Prelude.{Bool, true, cond, eqb}
use Rattle.format.specs.Masks.{Held, nothing, mask}
use Rattle.format.specs.Same.{same_list}
use Rattle.format.specs.Saved.{line_of}

-- "Masks are the same when their `S` lines are."
unfoldable pub same_line : Held → Held → Bool
same_line g h = same_list eqb (line_of g) (line_of h)

-- What is held may become what a message leaves: after nothing any mask, after a mask any of another issue, and of its own the same one alone.
unfoldable pub steady : Held → Held → Bool
steady nothing after = true
steady (mask m) nothing = true
steady (mask m) (mask n) = cond (eqb n.iod m.iod) (same_line (mask m) (mask n)) true
