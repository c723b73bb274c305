-- Tests that two values are the same.
use Rattle.std.specs.Prelude.{Bool, true, false, ◌&&◌, List, [], ◌∷◌, eqb, ℤ, pos, negsuc}
use Rattle.std.specs.Bool.{beq}
use Rattle.format.specs.declared.Head.{Head}
use Rattle.format.specs.Masks.{System, Held, nothing, mask}

unfoldable pub same_list : {A : Type 0} → (A → A → Bool) → List A → List A → Bool
same_list same [] [] = true
same_list same [] (y ∷ ys) = false
same_list same (x ∷ xs) [] = false
same_list same (x ∷ xs) (y ∷ ys) = same x y && same_list same xs ys

unfoldable pub sameℤ : ℤ → ℤ → Bool
sameℤ (pos m) (pos n) = eqb m n
sameℤ (pos m) (negsuc n) = false
sameℤ (negsuc m) (pos n) = false
sameℤ (negsuc m) (negsuc n) = eqb m n

unfoldable pub same_head : Head → Head → Bool
same_head g h =
    sameℤ g.subtype h.subtype && (sameℤ g.epoch h.epoch && (sameℤ g.interval h.interval && (sameℤ g.indicator h.indicator
    && (sameℤ g.iod h.iod && (sameℤ g.a h.a && (sameℤ g.b h.b && sameℤ g.c h.c))))))

unfoldable pub same_system : System → System → Bool
same_system r s =
    eqb r.id s.id && (same_list beq r.satellites s.satellites && (same_list beq r.signals s.signals
    && (beq r.flag s.flag && same_list beq r.cells s.cells)))

unfoldable pub same_held : Held → Held → Bool
same_held nothing nothing = true
same_held nothing (mask n) = false
same_held (mask m) nothing = false
same_held (mask m) (mask n) = eqb m.iod n.iod && same_list same_system m.systems n.systems
