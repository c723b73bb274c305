-- `saved::candidate::slot_said` meets its contract. Assumes nothing.
use mathlib.Core.Path.{◌≡◌, sym, ap, ◌∙◌}
use Prim.Native.Nat.{ℕ, ◌+◌}
use native.Mathlib.Omega.{arith}
use borrow.Author.Rules.{rules}
use lib.Dec.{eqb}
use lib.ListN.{get_or, drop}
use lib.Seq.{get_or-drop, drop-drop}
use Rattle.bits.specs.BitLists.{number, spell}
use Rattle.format.specs.Text.{char_digit, hex_bits}
use Rattle.holding.specs.Spread.{spread}
use Rattle.text.proofs.Characters.{said_small}
use Rattle.saved.specs.Saying.{slot_said}
use Rattle.saved.proofs.SpreadBits.{spread_lt}
use Rattle.saved.proofs.candidate.slot_said.Statement.{statement}
use Rattle.saved.proofs.candidate.slot_said.Tie as tie

overflow_cast-result : tie.Need-overflow_cast-result
overflow_cast-result c =
    let s = c in
    omega (arith, s.said-id.ensures, said_small s.char_at.result (omega (arith, s.char_at.type_inv)))

overflow_cast-result-2 : tie.Need-overflow_cast-result-2
overflow_cast-result-2 c =
    let x = c.args in
    omega (arith, c.spread_at-signals.ensures, spread_lt (hex_bits (drop (x.at + 14) x.line.now)) 65535 16 0)

returns : tie.Need-returns
unfolding slot_said
returns c =
    let g = c.before in
    let a = g.before in
    let s = a in
    let x = s.args in
    let line = x.line.now in
    let text = drop x.at line in
    let id : s.said-id.result ≡ char_digit (get_or text 1 0) = s.said-id.ensures ∙ ap char_digit (s.char_at.ensures ∙ sym (get_or-drop x.at line 1 0)) in
    let satellites : a.spread_at-satellites.result ≡ number (spread (spell 40 1099511627775) (hex_bits (drop 3 text))) = a.spread_at-satellites.ensures ∙ rw (drop-drop 3 x.at line) in
    let signals : g.spread_at-signals.result ≡ number (spread (spell 16 65535) (hex_bits (drop 14 text))) = g.spread_at-signals.ensures ∙ rw (drop-drop 14 x.at line) in
    let flag : eqb c.char_at-flag.result 49 ≡ eqb (get_or text 19 0) 49 = ap (λ (n : ℕ). eqb n 49) (c.char_at-flag.ensures ∙ sym (get_or-drop x.at line 19 0)) in
    λ i. record { id = id i; satellites = satellites i; signals = signals i; flag = flag i }

pub slot_said_spec : {M : Type 1} → statement M
slot_said_spec =
    tie.close
    (tie.spec (λ c. search rules) (λ c κs. search rules) (λ c κs. search rules) (λ c. search rules) (λ c κs. search rules) (λ c. search rules) (λ c κs. search rules) (λ c. search rules) (λ c κs. search rules)
    overflow_cast-result overflow_cast-result-2 returns)
