-- `lines::records::stop` meets its contract. Assumes nothing.
use mathlib.Core.Path.{◌≡◌, ap}
use mathlib.Core.List.{List, [], ◌∷◌, map}
use Prim.Native.Nat.{◌+◌, ◌≤◌}
use native.Mathlib.Omega.{arith}
use borrow.Author.Rules.{rules}
use lib.IntN.{ℤ, pos}
use lib.ListN.{length}
use mir.Syntax.{w32}
use mir.Val.{to_z, of_z}
use Rattle.format.proofs.Bodies.{All, none, more}
use Rattle.format.specs.Listing.{letter_e, value_text, missing_value, stop_values}
use Rattle.format.specs.Text.{tab, line_feed}
use Rattle.text.proofs.Stores.{wrote, told_first, then_wrote}
use Rattle.lines.specs.Records.{record_long, values_text}
use Rattle.lines.proofs.RecordTexts.{Small, record_long_lem, values_shorter, one_more, as_read}
use Rattle.lines.proofs.records.stop.Statement.{statement}
use Rattle.lines.proofs.records.stop.Tie as tie

-- the first four values
module _ (s : tie.Start) where
  abbrev values : List ℤ
  values = pos s.args.number ∷ pos s.args.place ∷ pos s.args.messages ∷ pos s.args.rows ∷ []

  small : All Small values
  small = more s.requires.0 (more s.requires.1 (more s.requires.2 (more s.requires.3 none)))

  same : map (λ v. to_z w32 (of_z w32 v)) values ≡ values
  same = as_read values small

  long : length (values_text letter_e values) + 1 ≤ record_long 4
  long = omega (arith, record_long_lem letter_e values small, values_shorter letter_e values)

opened-first-requires : tie.Need-opened-first-requires
opened-first-requires c κs =
    let s = c.before.before.before in
    omega (arith, long s, ap (λ (vs : List ℤ). length (values_text letter_e vs)) (same s))

missing_bits-last-requires : tie.Need-missing_bits-last-requires
missing_bits-last-requires c κs =
    let o = c.before.before.before in
    let s = o.before.before.before.before in
    let first = rw (same s) at o.opened-first.ensures in
    omega (arith, first.0, long s)

put-requires : tie.Need-put-requires
put-requires c κs =
    let m = c.before.before.before in
    let o = m.before.before.before.before in
    let s = o.before.before.before.before in
    let first = rw (same s) at o.opened-first.ensures in
    omega (arith, first.0, long s, m.missing_bits-last.ensures.1.1)

returns : tie.Need-returns
unfolding stop_values
returns c =
    let f = c.before.before in
    let m = f.before.before.before.before in
    let o = m.before.before.before.before in
    let s = o.before.before.before.before in
    let x = s.args in
    let first = rw (same s) at o.opened-first.ensures in
    let last = m.missing_bits-last.ensures in
    let w = told_first (then_wrote (wrote x.out.now {at = 0} (values_text letter_e (values s)) first)
    (then_wrote (wrote _ (tab ∷ value_text (missing_value x.number x.missing)) (last.0, last.1.0)) (wrote _ (line_feed ∷ []) f.put.ensures))) in
    rw (one_more letter_e (values s) (missing_value x.number x.missing)) (w.0, (w.1, omega (arith, first.0, long s, last.1.1, f.put.ensures.0)))

pub stop_spec : {M : Type 1} → statement M
stop_spec =
    tie.close
    (tie.spec (λ c. search rules) (λ c. search rules) (λ c. search rules) (λ c. search rules) (λ c. search rules) opened-first-requires missing_bits-last-requires put-requires
    (λ c. search rules) returns)
