-- `lines::records::opening` meets its contract. Assumes nothing.
use mathlib.Core.Path.{◌≡◌, ap}
use mathlib.Core.List.{List, [], ◌∷◌, ◌++◌, map}
use Prim.Native.Nat.{◌-◌, ◌≤◌}
use native.Mathlib.Omega.{arith}
use borrow.Author.Rules.{rules}
use lib.IntN.{ℤ, pos}
use lib.ListN.{length}
use mir.Syntax.{w32}
use mir.Val.{to_z, of_z}
use Rattle.format.proofs.Bodies.{All, none, more}
use Rattle.format.specs.Listing.{head_values, record_text, letter_m}
use Rattle.lines.specs.Records.{record_long}
use Rattle.lines.proofs.RecordTexts.{Small, record_long_lem, as_read}
use Rattle.lines.proofs.records.opening.Statement.{statement}
use Rattle.lines.proofs.records.opening.Tie as tie

module _ (c : tie.After-struct_told-1) where
  abbrev s : tie.Start
  s = c.before.before

  abbrev values : List ℤ
  values = pos s.args.place ∷ pos (s.args.next - s.args.place) ∷ (head_values s.args.head ++ (pos s.args.n ∷ []))

  small : All Small values
  unfolding head_values
  small =
      let t = c.struct_told-1.given in
      let place : Small (pos s.args.place) = omega arith in
      let long : Small (pos (s.args.next - s.args.place)) = omega arith in
      let count : Small (pos s.args.n) = omega arith in
      more place (more long (more t.0.1 (more t.1.0.1 (more t.1.1.0.1 (more t.1.1.1.0.1
      (more t.1.1.1.1.0.1 (more t.1.1.1.1.1.0.1 (more t.1.1.1.1.1.1.0.1 (more t.1.1.1.1.1.1.1.0.1 (more count none))))))))))

  same : map (λ v. to_z w32 (of_z w32 v)) values ≡ values
  same = as_read values small

  long : length (record_text letter_m values) ≤ record_long 11
  unfolding head_values
  long = record_long_lem letter_m values small

record-requires : tie.Need-record-requires
unfolding head_values
record-requires c κs =
    let t = c.before.before in
    omega (arith, long t, ap (λ (vs : List ℤ). length (record_text letter_m vs)) (same t))

returns : tie.Need-returns
unfolding head_values
returns c =
    let r = c.before.before in
    let t = r.before.before.before in
    let done = rw (same t) at r.«record».ensures in
    (omega (arith, done.0), (done.1, omega (arith, done.0, long t)))

pub opening_spec : {M : Type 1} → statement M
opening_spec =
    tie.close
    (tie.spec (λ c. search rules) (λ c. search rules) (λ c. search rules) (λ c. search rules) (λ c. search rules) record-requires (λ c. search rules) returns)
