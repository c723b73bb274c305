-- `putting::marks::select` meets its contract. Assumes nothing.
use Rattle.bits.proofs.Words.{◌≡◌, ap, ◌∙◌, List, ℕ, ◌-◌, ◌/◌, ◌%◌, ◌^◌, arith, rules, length}
use Prim.Native.Nat.{min}
use Rattle.putting.specs.Marking.{top_field, selection_fields}
use Rattle.pens.specs.Pens.{pen_after, ink_after}
use Rattle.putting.proofs.SelectionFields.{first_ready, second_ready, both_put, both_inked, one_put, one_inked, none_put, none_left}
use Rattle.pens.proofs.Pens.{length_ink}
use Rattle.putting.proofs.marks.select.Statement.{statement}
use Rattle.putting.proofs.marks.select.Tie as tie

module _ (c : tie.After-top) where
  abbrev start : tie.Start
  start = c.before.before.before.before.before

  first : c.top.result ≡ top_field (start.args.chosen / 2 ^ 32) (min start.args.n 32)
  first = c.top.ensures ∙ ap (top_field (start.args.chosen / 2 ^ 32)) c.in_first-first.ensures

-- no more than the first half's bits: they are pushed, and that is all
module _ (c : tie.Then-n-le-HALF) where
  abbrev half : tie.After-push-ahead
  half = c.before.before.before

  alone : let s = start half.before in
      (half.push-ahead.result ≡ pen_after s.args.pen (selection_fields s.args.chosen s.args.n))
      × (half.push-ahead.new.bytes ≡ ink_after s.args.pen (selection_fields s.args.chosen s.args.n) s.args.bytes.now)
  unfolding selection_fields
  alone =
      let s = start half.before in
      let none-wide : s.args.n - min s.args.n 32 ≡ 0 = omega (arith, c.if-n-le-HALF.true) in
      let none-there = none_left s.args.chosen s.args.n c.if-n-le-HALF.true in
      let put = half.push-ahead.ensures.0 in
      let inked = half.push-ahead.ensures.1 in
      (one_put s.requires.1 (first half.before) put inked none-wide none-there, one_inked s.requires.1 (first half.before) put inked none-wide none-there)

module _ (c : tie.After-top-2) where
  abbrev pushed : tie.After-push-ahead
  pushed = c.before.before.before.before.before

  abbrev begun : tie.Start
  begun = start pushed.before

  second : c.top-2.result ≡ top_field (begun.args.chosen % 2 ^ 32) (begun.args.n - min begun.args.n 32)
  second = c.top-2.ensures ∙ ap (λ (w : ℕ). top_field (begun.args.chosen % 2 ^ 32) (begun.args.n - w)) pushed.in_first-first.ensures

inked : (c : tie.After-push) → let s = begun c.before in c.push.new.bytes ≡ ink_after s.args.pen (selection_fields s.args.chosen s.args.n) s.args.bytes.now
unfolding selection_fields
inked c =
    let t = c.before in
    both_inked (begun t).requires.1 (first (pushed t).before) (pushed t).push-ahead.ensures.0 (pushed t).push-ahead.ensures.1 (second t) c.push.ensures.1

-- as long as they were, by either way
same : (s : tie.Start) {l : List ℕ} → l ≡ ink_after s.args.pen (selection_fields s.args.chosen s.args.n) s.args.bytes.now → length l ≡ length s.args.bytes.now
same s e = ap length e ∙ length_ink (selection_fields s.args.chosen s.args.n) s.args.pen s.args.bytes.now

-- no satellite's bit
returns-then-n-eq0 : tie.Need-returns-then-n-eq0
unfolding selection_fields
returns-then-n-eq0 c =
    let s = c in
    let none : s.args.n ≡ 0 = c.if-n-eq0.true in
    none_put s.requires.1 (omega arith) (rw none (omega (arith, s.ranges.chosen))) (omega arith) (none_left s.args.chosen s.args.n (omega arith))

pub select_spec : {M : Type 1} → statement M
unfolding selection_fields
select_spec =
    tie.close
    (tie.spec returns-then-n-eq0 (λ c κs. search rules) (λ c κs. search rules) (λ c κs. first_ready (start c).requires.1 (first c)) (λ c. same (start (half c).before) (alone c).1) (λ c. alone c) (λ c. search rules) (λ c κs. search rules)
    (λ c κs. second_ready (begun c).requires.1 (first (pushed c).before) (pushed c).push-ahead.ensures.0 (pushed c).push-ahead.ensures.1 (second c))
    (λ c. same (begun c.before.before.before) (inked c.before.before))
    (λ c. let t = c.before.before.before in
    (both_put (begun t).requires.1 (first (pushed t).before) (pushed t).push-ahead.ensures.0 (pushed t).push-ahead.ensures.1 (second t) c.push.ensures.0, inked c.before.before)))
