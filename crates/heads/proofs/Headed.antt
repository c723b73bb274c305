-- Where crate format's programs of what a message says before its body end, each by what the code took. Assumes nothing.
use Rattle.bits.proofs.Words.{◌≡◌, ap, ◌∙◌, Bool, true, false, not, List, [], ◌∷◌, ℕ, ◌+◌, ◌-◌, ◌/◌, ◌%◌, ◌≤◌, ◌<◌, arith, eqb, length, get_or, pos}
use borrow.Author.Tests.{eq-eqb, ne_eqb, le-ltb}
use Rattle.bits.specs.BitLists.{spell}
use Rattle.bits.specs.declared.read.Short as Bits
use Rattle.std.specs.Prelude.{Ok, Err}
use Rattle.bits.specs.Places.{field}
use Rattle.bits.specs.Short.{taken_at, bits_of, short_by}
use Rattle.format.proofs.Ends.{done_end, after_field, bits_there, bits_cut, number_whole, number_short}
use Rattle.format.proofs.Together.{together, parts_of, fields_whole, fields_short}
use Rattle.format.specs.declared.Head.{Head}
use Rattle.format.specs.declared.Refusal.TheVariants.{Short, Network}
use Rattle.format.specs.Ends.{Within, end_from}
use Rattle.format.specs.Masks.{Sky, pick}
use Rattle.format.specs.Messages as Messages
use Rattle.format.specs.Messages.{Selected, Keys, nameable, selection, packet, packet_heading, flagged, lines_of}
use Rattle.format.specs.Programs.{Program, done, ◌>>=◌, ◌>>◌, taking, numbered, require, well, badly, later, run}
use Rattle.format.specs.Rows.{Column}
use Rattle.heads.specs.declared.CommonHead.{CommonHead}
use Rattle.heads.specs.declared.heading.Under.{Under}
use Rattle.heads.specs.Heads.{common_of}
use Rattle.heads.specs.Headings.{head_with, networked, rowed, network_by, after_flags}
use Rattle.table.specs.Kinds.{keys_by}
use Rattle.table.specs.Shapes.{shapes_from}

-- ---- three fields, of which the code has a fourth of no bits

module _ {A : Type 0} {bs : List ℕ} {end place : ℕ} (at : Within bs end place) (a b c : ℕ) (k : List ℕ → Program A) where
  three_cut : {s : Bits.Short} → taken_at bs end place (bits_of (a ∷ b ∷ c ∷ [])) ≡ Err s → end_from (together (a ∷ b ∷ c ∷ []) k) bs end place ≡ badly Short (short_by (a ∷ b ∷ c ∷ 0 ∷ []) (end - place))
  unfolding short_by
  three_cut e = fields_short at (a ∷ b ∷ c ∷ []) k e ∙ rw (le-ltb (end - place - a - b - c) 0 (omega arith))

-- ---- a packet's part

-- what its six bits say
unfoldable pub packet_of : ℕ → Messages.Heading
packet_of n = packet_heading (n / 32) (n / 4 % 8) (n % 4)

module _ {bs : List ℕ} {end place : ℕ} (at : Within bs end place) where
  abbrev with_three : List ℕ → Program Messages.Heading
  with_three ns = done (packet_heading (get_or ns 0 0) (get_or ns 1 0) (get_or ns 2 0))

  pub packet_there : {n : ℕ} → taken_at bs end place 6 ≡ Ok n → end_from packet bs end place ≡ well (packet_of n) (place + 6)
  unfolding packet packet_of packet_heading together bits_of parts_of numbered ◌>>=◌
  packet_there {n} e =
      let b : n % 32 / 4 ≡ n / 4 % 8 = omega arith in
      let c : n % 32 % 4 / 1 ≡ n % 4 = omega arith in
      fields_whole at (1 ∷ 3 ∷ 2 ∷ []) with_three e ∙ rw (done_end, b, c)

  pub packet_short : {s : Bits.Short} → taken_at bs end place 6 ≡ Err s → end_from packet bs end place ≡ badly Short (short_by (1 ∷ 3 ∷ 2 ∷ 0 ∷ []) (end - place))
  unfolding packet packet_heading together bits_of numbered ◌>>=◌
  packet_short e = three_cut at 1 3 2 with_three e

  -- ---- the three flags

  module _ (u : Under) (h : CommonHead) (sky : Sky) where
    -- with the flags one by one
    abbrev after_three : List ℕ → Program Messages.Heading
    after_three ns =
        selection (keys_by u.layout) sky (get_or ns 2 0)
        >>= (λ s.
        done
        (record {
          head = head_with u.subtype h (pos (get_or ns 0 0)) (pos (get_or ns 1 0)) s.network;
          lines = lines_of (keys_by u.layout) (shapes_from u.layout.shape (eqb (get_or ns 0 0) 1) (eqb (get_or ns 1 0) 1)) sky s.chosen;
        }))

    abbrev flags : Program Messages.Heading
    flags = flagged u.subtype (keys_by u.layout) (shapes_from u.layout.shape) sky (common_of h)

    pub flags_short : {s : Bits.Short} → taken_at bs end place 3 ≡ Err s → end_from flags bs end place ≡ badly Short (short_by (1 ∷ 1 ∷ 1 ∷ 0 ∷ []) (end - place))
    unfolding flagged head_with together bits_of numbered ◌>>=◌
    flags_short e = three_cut at 1 1 1 after_three e

    pub flags_there : {n : ℕ} → taken_at bs end place 3 ≡ Ok n → end_from flags bs end place ≡ end_from (after_flags u h n sky) bs end (place + 3)
    unfolding flagged head_with after_flags together bits_of parts_of numbered ◌>>=◌
    flags_there {n} e =
        let b : n % 4 / 2 ≡ n / 2 % 2 = omega arith in
        let c : n % 4 % 2 / 1 ≡ n % 2 = omega arith in
        fields_whole at (1 ∷ 1 ∷ 1 ∷ []) after_three e ∙ rw (b, c)

  -- ---- a network and its selection

  module _ (keys : Keys) (sky : Sky) (h : Head) (shape : ℕ → List Column) where
    abbrev many : ℕ
    many = length sky.satellites

    abbrev networks : Program Messages.Heading
    networks = network_by keys sky h shape

    -- what is left after the selection, by whether it may name whom it does, and after the network, by whether it is one
    abbrev named : ℕ → List Bool → Bool → Program Selected
    named network bits may = require may Network >> done (record { network = pos network; chosen = pick bits sky.satellites })

    abbrev with_bits : ℕ → List Bool → Program Selected
    with_bits network bits = named network bits (nameable keys sky (pick bits sky.satellites))

    abbrev after_network : ℕ → Bool → Program Messages.Heading
    after_network network some = (require some Network >> (taking many >>= with_bits network)) >>= rowed keys sky h shape

    pub network_short : {s : Bits.Short} → taken_at bs end place 5 ≡ Err s → end_from networks bs end place ≡ badly Short s.missing
    unfolding network_by selection numbered ◌>>=◌
    network_short e = number_short at 5 e (λ n. after_network n (not (eqb n 0)))

    module _ {n : ℕ} (e : taken_at bs end place 5 ≡ Ok n) where
      by_network : (b : Bool) → eqb n 0 ≡ b → end_from networks bs end place ≡ end_from (after_network n (not b)) bs end (place + 5)
      unfolding network_by selection numbered ◌>>=◌
      by_network b is = number_whole at 5 e (λ n. after_network n (not (eqb n 0))) ∙ rw is

      pub network_none : n ≡ 0 → end_from networks bs end place ≡ badly Network 0
      unfolding require ◌>>◌ ◌>>=◌ end_from run later
      network_none nought = by_network true (eq-eqb n 0 nought)

      module _ (some : n ≡ 0 → ⊥) where
        pub network_cut : end - (place + 5) < many → end_from networks bs end place ≡ badly Short (many - (end - (place + 5)))
        unfolding require ◌>>◌ taking ◌>>=◌
        network_cut short = by_network false (ne_eqb n 0 some) ∙ bits_cut (after_field at 5 e) many (λ b. with_bits n b >>= rowed keys sky h shape) short

        -- where the selection is there
        module _ (room : many ≤ end - (place + 5)) where
          abbrev bits : List Bool
          bits = spell many (field bs (place + 5) many)

          behind : (may : Bool) → nameable keys sky (pick bits sky.satellites) ≡ may
              → end_from networks bs end place ≡ end_from (named n bits may >>= rowed keys sky h shape) bs end (place + 5 + many)
          unfolding require ◌>>◌ taking ◌>>=◌
          behind may is =
              by_network false (ne_eqb n 0 some)
              ∙ bits_there (after_field at 5 e) many (λ b. with_bits n b >>= rowed keys sky h shape) (omega (arith, after_field at 5 e))
              ∙ ap (λ (b : Bool). end_from (named n bits b >>= rowed keys sky h shape) bs end (place + 5 + many)) is

          pub network_bare : nameable keys sky (pick bits sky.satellites) ≡ false → end_from networks bs end place ≡ badly Network 0
          unfolding require ◌>>◌ ◌>>=◌ end_from run later
          network_bare bare = behind false bare

          pub network_there : nameable keys sky (pick bits sky.satellites) ≡ true
              → end_from networks bs end place ≡ well (record { head = networked h (pos n); lines = lines_of keys shape sky (pick bits sky.satellites) }) (place + 5 + many)
          unfolding require ◌>>◌ rowed ◌>>=◌
          network_there may = behind true may ∙ done_end _ _ _ _
