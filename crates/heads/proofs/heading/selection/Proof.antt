-- `heads::heading::selection` meets its contract: each return is one of the ways in which a network and its selection end. Assumes nothing.
use Rattle.bits.proofs.Words.{◌≡◌, sym, ap, ◌∙◌, true, cond, ℕ, ◌+◌, ◌<◌, arith, take, rules}
use mir.Facts.{to_z_pos}
use mir.Syntax.{w32}
use Rattle.std.specs.Prelude.{Ok}
use Rattle.bits.specs.BitLists.{spell}
use Rattle.bits.specs.Short.{taken_at}
use Rattle.format.proofs.Ends.{after_field, fits}
use Rattle.format.specs.Ends.{Within}
use Rattle.format.specs.Masks.{pick}
use Rattle.format.specs.Messages.{nameable}
use Rattle.format.specs.Programs.{well}
use Rattle.heads.specs.Headings.{Shows, said_by, FitsHeading, HasBody, chosen_body}
use Rattle.heads.proofs.Headed.{network_short, network_none, network_cut, network_bare, network_there}
use Rattle.heads.proofs.Named.{bits_at, picked_lines, picked_named}
use Rattle.holding.specs.Held.{View, sky_in}
use Rattle.heads.proofs.heading.selection.Statement.{statement}
use Rattle.heads.proofs.heading.selection.Tie as tie
use Rattle.table.specs.declared.Layout.{Layout}
use Rattle.table.specs.declared.Keys.{Keys}
use Rattle.table.specs.Bodies.{all_set, lines_in, lines_over}
use Rattle.table.specs.Kinds.{keys_for, keys_by}
use Rattle.rows.specs.Table.{shape_at}

-- the network, where its bits are there
module _ (c : tie.In-Ok) where
  abbrev s : tie.Start
  s = c.before.before.before.before

  abbrev n : ℕ
  n = c.in-Ok.network

  there : taken_at s.args.bytes.now s.args.f.end (s.args.f.start + 40) 5 ≡ Ok n
  there = sym (c.taken-taken.ensures _ s.requires.4) ∙ c.in-Ok.is

  after : Within s.args.bytes.now s.args.f.end (s.args.f.start + 40 + 5)
  after = after_field s.requires.3 5 there

  low : n < 32
  low = fits s.requires.3 5 there

-- and its selection's are
module _ (c : tie.After-nameable) where
  abbrev some : tie.Else-network-eq0
  some = c.before.before.before.before.before

  abbrev p : tie.In-Ok
  p = some.before

  abbrev l : Layout
  l = (s p).args.under.layout

  abbrev place : ℕ
  place = (s p).args.f.start + 40 + 5

  -- whether it may name whom it does
  may : {v : View} → Shows v (s p).args.under.n (s p).args.strips.now
      → nameable (keys_by l) (sky_in v) (pick (bits_at v (s p).args.bytes.now place) v.satellites) ≡ c.nameable.result
  may shows =
      picked_named shows l (s p).args.bytes.now place
      ∙ sym (c.nameable.ensures ∙ ap (λ (word : ℕ). cond l.cells (all_set (pick (spell 64 word) (take (s p).args.under.n (s p).args.strips.now))) true) c.chosen-word.ensures)

returns-then-left-n : tie.Need-returns-then-left-n
unfolding said_by FitsHeading HasBody sky_in
returns-then-left-n c =
    let some = c.before.before.before in
    let p = some.before in
    let x = (s p).args in (
      λ v shows.
          rw (network_cut (s p).requires.3 (keys_by x.under.layout) (sky_in v) x.numbers (shape_at x.shape) (there p) some.if-network-eq0.false (rw shows.count c.if-left-n.true))
          (rw shows.count),
      record { fits = tt; this = tt },
    )

returns-then-not-nameable : tie.Need-returns-then-not-nameable
unfolding said_by FitsHeading HasBody sky_in
returns-then-not-nameable c =
    let t = c.before in
    let x = (s (p t)).args in (
      λ v shows.
          sym (network_bare (s (p t)).requires.3 (keys_by (l t)) (sky_in v) x.numbers (shape_at x.shape) (there (p t)) (some t).if-network-eq0.false
          (rw shows.count t.if-left-n.false) (may t shows ∙ c.if-not-nameable.true)),
      record { fits = tt; this = tt },
    )

returns-in-Err : tie.Need-returns-in-Err
unfolding said_by FitsHeading HasBody
returns-in-Err c =
    let x = c.args in
    (λ v shows. sym (network_short c.requires.3 (keys_by x.under.layout) (sky_in v) x.numbers (shape_at x.shape) (sym (c.taken-taken.ensures _ c.requires.4) ∙ c.in-Err.is)), record { fits = tt; this = tt })

returns-else-not-nameable : tie.Need-returns-else-not-nameable
unfolding said_by FitsHeading HasBody chosen_body lines_in sky_in
returns-else-not-nameable c =
    let w = c.before in
    let t = w.before.before in
    let q = p t in
    let x = (s q).args in
    let head = rw (to_z_pos w32 {n = n q} (omega (arith, low q))) at w.with_network-head.ensures in
    let keys = c.over-keys.ensures ∙ ap (keys_for (l t).cells) t.chosen-word.ensures in (
      λ v shows.
          let whole = network_there (s q).requires.3 (keys_by (l t)) (sky_in v) x.numbers (shape_at x.shape) (there q) (some t).if-network-eq0.false
          (rw shows.count t.if-left-n.false) (may t shows ∙ w.if-not-nameable.false) in
          let lines = ap (λ (k : Keys). lines_over v k x.shape) keys ∙ sym (picked_lines shows (l t) x.bytes.now (place t) x.shape) in
          (λ i. well (record { head = head i; lines = lines i }) (place t + sym shows.count i)) ∙ sym whole,
      record { fits = rw keys ((s q).requires.2 _); this = λ i. record { keys = keys i; shape = x.shape } },
    )

pub selection_spec : {M : Type 1} → statement M
unfolding said_by FitsHeading HasBody
selection_spec =
    tie.close
    (tie.spec (λ c κs. search rules) (λ c. search rules) (λ c. search rules)
    (λ c. let x = (s c.before).args in (λ v shows. sym (network_none (s c.before).requires.3 (keys_by x.under.layout) (sky_in v) x.numbers (shape_at x.shape) (there c.before) c.if-network-eq0.true), record { fits = tt; this = tt }))
    (λ c. search rules) (λ c. search rules) (λ c. (after c.before.before.before).room) (λ c. search rules) returns-then-left-n
    (λ c κs. let q = c.before.before.before.before in (omega (arith, after q), (s q).requires.0)) (λ c κs. (s c.before.before.before.before.before).requires.1) returns-then-not-nameable
    (λ c. record { sfits = omega (arith, low (p c.before)) }) (λ c κs. search rules) (λ c κs. search rules) (λ c. search rules) returns-in-Err returns-else-not-nameable)
