-- A window is a field of 64 bits that starts with a byte: it is eight bytes joined, and each field that lies in it is cut out of it.
-- Assumes nothing.
use Rattle.bits.proofs.Words.{◌≡◌, sym, ap, ◌∙◌, List, ℕ, ◌+◌, ◌-◌, ◌*◌, ◌/◌, ◌%◌, ◌^◌, ◌≤◌, ◌<◌, arith, length, get_or}
use native.Mathlib.Nat.{mul-add, mul-mod_left, mul_assoc, add-mul, one-mul, mod-eq_of_lt}
use lib.Bits.{bit_or, or_shifted}
use lib.Pow.{high, low, pow_pos, pow-add, shr-shr, shl-shr, mod-pow-add, shl_lt}
use lib.Pow as Pow
use Rattle.bits.specs.Places.{field}
use Rattle.bits.proofs.Fields.{field_lt, field_add, field_byte, field_past}

-- every element is a byte
abbrev pub Bytes : List ℕ → Type 0
Bytes bs = (k : ℕ) → get_or bs k 0 < 256

module _ (bs : List ℕ) (small : Bytes bs) (i : ℕ) where
  -- one byte more
  pub grow : (k : ℕ) → field bs (8 * i) (8 * k + 8) ≡ field bs (8 * i) (8 * k) * 256 + get_or bs (i + k) 0
  grow k =
      field_add bs (8 * i) (8 * k) 8
      ∙ ap (λ (x : ℕ). field bs (8 * i) (8 * k) * 256 + x)
      (ap (λ (p : ℕ). field bs p 8) (sym (mul-add 8 i k)) ∙ field_byte bs (i + k) (small (i + k)))

  pub eight_bytes :
      field bs (8 * i) 64
      ≡ get_or bs i 0 * 2 ^ 56 + get_or bs (i + 1) 0 * 2 ^ 48 + get_or bs (i + 2) 0 * 2 ^ 40 + get_or bs (i + 3) 0 * 2 ^ 32
      + get_or bs (i + 4) 0 * 2 ^ 24 + get_or bs (i + 5) 0 * 2 ^ 16 + get_or bs (i + 6) 0 * 2 ^ 8 + get_or bs (i + 7) 0
  eight_bytes = omega (arith, field_byte bs i (small i), grow 1, grow 2, grow 3, grow 4, grow 5, grow 6, grow 7)

-- the n bytes that are left, moved up to the front of a window
pub moved_up : (bs : List ℕ) (i n t : ℕ) → i + n ≡ length bs → 8 * n + t ≡ 64 → field bs (8 * i) (8 * n) * 2 ^ t % 2 ^ 64 ≡ field bs (8 * i) 64
moved_up bs i n t end whole =
    let none : field bs (8 * i + 8 * n) t ≡ 0 = field_past bs (8 * i + 8 * n) t (omega arith) in
    Pow.shl_exact (8 * n) t 64 (field_lt bs (8 * i) (8 * n)) (omega arith)
    ∙ omega (arith, none, field_add bs (8 * i) (8 * n) t, ap (field bs (8 * i)) whole)

-- one byte more, k bits above the lowest place of 32
glue : (x b k : ℕ) → b < 256 → 8 + k ≤ 32 → bit_or (x * 2 ^ (8 + k)) (b * 2 ^ k % 2 ^ 32) ≡ (x * 256 + b) * 2 ^ k
glue x b k small room =
    rw (Pow.shl_exact 8 k 32 small room, or_shifted x (8 + k) (b * 2 ^ k) (shl_lt 8 k small), pow-add 2 8 k)
    (sym (add-mul (x * 256) b (2 ^ k) ∙ ap (λ (y : ℕ). y + b * 2 ^ k) (mul_assoc x 256 (2 ^ k))))

pub joined : (a b c d : ℕ) → a < 256 → b < 256 → c < 256 → d < 256
    → bit_or (bit_or (bit_or (a * 2 ^ 24 % 2 ^ 32) (b * 2 ^ 16 % 2 ^ 32)) (c * 2 ^ 8 % 2 ^ 32)) d ≡ a * 2 ^ 24 + b * 2 ^ 16 + c * 2 ^ 8 + d
joined a b c d ha hb hc hd =
    let top : a * 2 ^ 24 % 2 ^ 32 ≡ a * 2 ^ 24 = omega arith in
    rw (top, glue a b 16 hb (omega arith), glue (a * 256 + b) c 8 hc (omega arith), or_shifted ((a * 256 + b) * 256 + c) 8 d hd) (omega arith)

-- two halves
pub halves : (x y : ℕ) → x < 2 ^ 32 → y < 2 ^ 32 → bit_or (x * 2 ^ 32 % 2 ^ 64) y ≡ x * 2 ^ 32 + y
halves x y hx hy =
    let top : x * 2 ^ 32 % 2 ^ 64 ≡ x * 2 ^ 32 = omega arith in
    rw top (or_shifted x 32 y hy)

-- a shift left drops what leaves the m bits, so with the shift right after it w bits are left, those with t bits below them
pub shifted : (y s w t m : ℕ) → m ≡ (w + t) + s → y * 2 ^ s % 2 ^ m / 2 ^ (s + t) ≡ y / 2 ^ t % 2 ^ w
shifted y s w t m e =
    rw (e, mod-pow-add (y * 2 ^ s) (w + t) s, shl-shr y s, mul-mod_left y (2 ^ s), ← (shr-shr (y % 2 ^ (w + t) * 2 ^ s + 0) s t), high (y % 2 ^ (w + t)) s (pow_pos s))
    (Pow.field y w t)

-- the w bits after the first s of a field of m bits, and of a window
pub in_field : (bs : List ℕ) (place m s w t : ℕ) → s + w + t ≡ m → field bs place m / 2 ^ t % 2 ^ w ≡ field bs (place + s) w
in_field bs place m s w t e =
    rw (← e, field_add bs place (s + w) t, high (field bs place (s + w)) t (field_lt bs (place + (s + w)) t), field_add bs place s w, low (field bs place s) w (field_lt bs (place + s) w))

pub in_window : (bs : List ℕ) (place s w t : ℕ) → s + w + t ≡ 64 → field bs place 64 / 2 ^ t % 2 ^ w ≡ field bs (place + s) w
in_window bs place = in_field bs place 64

-- the w bits at a place, cut out of the window at their first byte
pub at_place : (bs : List ℕ) (place w : ℕ) → w ≤ 56 → field bs (8 * (place / 8)) 64 / 2 ^ (64 - place % 8 - w) % 2 ^ w ≡ field bs place w
at_place bs place w narrow =
    let e : 8 * (place / 8) + place % 8 ≡ place = omega arith in
    in_window bs (8 * (place / 8)) (place % 8) w (64 - place % 8 - w) (omega arith) ∙ ap (λ (p : ℕ). field bs p w) e

-- 2 ^ w as a shift makes it
pub one_shifted : (w : ℕ) → w < 64 → 1 * 2 ^ w % 2 ^ 64 ≡ 2 ^ w
one_shifted w narrow = rw (one-mul (2 ^ w)) (mod-eq_of_lt (Pow.pow-lt narrow))
