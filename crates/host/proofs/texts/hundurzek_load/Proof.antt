-- `host::texts::hundurzek_load` meets its contract. Assumes nothing.
use mathlib.Core.Path.{◌≡◌, ap, ◌∙◌}
use mathlib.Core.List.{List}
use Prim.Native.Nat.{ℕ}
use native.Mathlib.Omega.{arith}
use borrow.Author.Rules.{rules}
use lib.ListN.{replicate, length-replicate}
use Rattle.format.specs.Saved.{load}
use Rattle.holding.specs.Pictures.{sound}
use Rattle.host.specs.declared.texts.Loaded.{Loaded}
use Rattle.host.proofs.HandedLines.{handing, hands}
use Rattle.host.proofs.texts.hundurzek_load.Statement.{statement}
use Rattle.host.proofs.texts.hundurzek_load.Tie as tie
use Rattle.passing.specs.Passing.{size}
use Rattle.saved.specs.declared.Loading.{Loading}
use Rattle.saved.specs.Loads.{loading_of, loading_by}

-- what the line says
module _ (c : tie.After-load_parts-loading) where
  abbrev line : List ℕ
  line = c.args.line.now

  abbrev loading : Loading
  loading = loading_of c.load_parts-loading.result c.load_parts-loading.new.satellites c.load_parts-loading.new.strips

  said : loading ≡ loading_by (load line)
  said = c.load_parts-loading.ensures

holding_over-requires : tie.Need-holding_over-requires
holding_over-requires c κs =
    let k = c.before.before.before.before in
    (omega arith, ap (λ (l : Loading). sound l.holding) (said k) ∙ (hands (line k)).fine)

returns : tie.Need-returns
returns c =
    let o = c.before.before in
    let k = o.before.before.before.before.before in
    let old : List ℕ = replicate size 0 in
    let told : ◌≡◌ {A = Loaded} (record { answer = c.load_number.result; holding = o.holding_over.new.bytes }) (handing old (loading k)) =
    λ i. record { answer = c.load_number.ensures i; holding = o.holding_over.ensures i } in
    told ∙ ap (handing old) (said k) ∙ (hands (line k)).same old (length-replicate {A = ℕ} size 0)

pub hundurzek_load_spec : {M : Type 1} → statement M
hundurzek_load_spec = tie.close (tie.spec (λ c κs. search rules) (λ c. search rules) holding_over-requires (λ c κs. search rules) returns)
