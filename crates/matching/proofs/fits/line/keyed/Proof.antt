-- `matching::fits::line::keyed` meets its contract. Assumes nothing.
use Rattle.bits.proofs.Words.{◌≡◌, sym, ◌∙◌, true, rules, get_or, pos}
use borrow.Author.Tests.{eq-eqb, ne_eqb}
use Rattle.format.specs.Same.{sameℤ}
use Rattle.matching.proofs.RowTests.{same_bits, keys_by_lem}
use Rattle.matching.proofs.fits.line.keyed.Statement.{statement}
use Rattle.matching.proofs.fits.line.keyed.Tie as tie

-- the first key is the line's
first : (c : tie.Else-row-key) → sameℤ (get_or c.args.row.now 0 (pos 0)) c.args.key.system ≡ true
first c =
    let t = c.before in
    let f = t.before.before in
    sym (same_bits _ f.args.key.system (record { sfits = f.t4-1.given }) (record { sfits = t.struct_told-1.given.0.1 })) ∙ eq-eqb _ _ c.if-row-key.false

-- and the second
second : (c : tie.Else-row-key-2) → let s = c.before.before.before.before.before.before.before.before in sameℤ (get_or s.args.row.now 1 (pos 0)) s.args.key.satellite ≡ true
second c =
    let t = c.before in
    let f = t.before.before in
    let s = f.before.before.before.before.before in
    sym (same_bits _ s.args.key.satellite (record { sfits = f.t4-2-1.given }) (record { sfits = t.struct_told-2-1.given.1.0.1 })) ∙ eq-eqb _ _ c.if-row-key-2.false

returns-then-row-key : tie.Need-returns-then-row-key
returns-then-row-key c =
    let t = c.before in
    let f = t.before.before in
    let s = f in
    rw (
      keys_by_lem s.args.row.now s.requires s.args.key,
      ← (same_bits (get_or s.args.row.now 0 (pos 0)) s.args.key.system (record { sfits = f.t4-1.given }) (record { sfits = t.struct_told-1.given.0.1 })),
      ne_eqb _ _ c.if-row-key.true,
    )

returns-then-row-key-2 : tie.Need-returns-then-row-key-2
returns-then-row-key-2 c =
    let t = c.before in
    let f = t.before.before in
    let s = f in
    rw (
      keys_by_lem s.args.row.now s.requires s.args.key,
      first f.before,
      ← (same_bits (get_or s.args.row.now 1 (pos 0)) s.args.key.satellite (record { sfits = f.t4-2-1.given }) (record { sfits = t.struct_told-2-1.given.1.0.1 })),
      ne_eqb _ _ c.if-row-key-2.true,
    )

returns : tie.Need-returns
returns c =
    let r = c.before.before in
    let f = r.before.before.before.before in
    let s = f in
    rw (keys_by_lem s.args.row.now s.requires s.args.key, first f.before, second r.before)
    (same_bits (get_or s.args.row.now 2 (pos 0)) s.args.key.signal (record { sfits = r.result-1.given }) (record { sfits = c.struct_told-3-1.given.1.1.0.1 }))

pub keyed_spec : {M : Type 1} → statement M
keyed_spec = tie.close (tie.spec (λ c. search rules) returns-then-row-key (λ c. search rules) returns-then-row-key-2 (λ c. search rules) returns)
