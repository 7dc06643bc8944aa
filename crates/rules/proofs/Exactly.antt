-- The two forms are lawful at their widths, so that every law over a form is theirs. Assumes nothing.
use mathlib.Core.Path.{◌≡◌, refl, sym, subst, ◌∙◌}
use mathlib.Core.Logic.{◌↔◌, by_cases}
use mathlib.Core.Bool.{not, ◌||◌}
use mathlib.Core.List.{List}
use Prim.Native.Nat.{ℕ, ◌-◌, ◌/◌, ◌%◌, ◌^◌, ◌<◌, ◌≤◌}
use native.Mathlib.Decide.{ℕ_discrete}
use native.Mathlib.Omega.{arith}
use borrow.Author.Tests.{eq-eqb, ne_eqb}
use lib.Dec.{T, leb, eqb, leb→le, le→leb, lit≤, lit<}
use lib.ListN.{get_or}
use lib.Pow.{pow_pos}
use lib.IntN.{ℤ}
use Rattle.numbers.proofs.Positional.{size}
use Rattle.rules.specs.Integer.{integer, Bytes}
use Rattle.rules.specs.Digits.{weighted}
use Rattle.rules.specs.Widths.{width_n, width_r, row}
use Rattle.rules.specs.Forms.{form_n, form_r, card_n, card_r}
use Rattle.rules.specs.Keeps.{Passes}
use Rattle.rules.specs.Exactly.{ExactlyOne, Lawful, Recodable}
use Rattle.rules.proofs.Integer.{last_byte, bits-held}
use Rattle.rules.proofs.Tally.{count_most, additions-most}
use Rattle.rules.proofs.NonAdjacent.{unique-n}
use Rattle.rules.proofs.RecoderN.{naf_of, recoded-n}
use Rattle.rules.proofs.Radix.{unique-r}
use Rattle.rules.proofs.RecoderR.{radix_of, recoded-r}
use Rattle.rules.proofs.Table.{row_fits, width-between, at-widths, all-bits}
use Rattle.rules.proofs.Promises.{equal-digits, exactly-one, recodable}

-- ---- N, over the widest width, the number of digits and the width

module _ (widest n w : ℕ) (n⁺ : 0 < n) where
  pub lawful-n : T (width_n widest w) → Lawful (form_n widest n w)
  lawful-n a =
      let b = width-between 2 widest w a in
      record {
        fixes = λ x ds es r s. unique-n widest n w ds es r.keeps s.keeps (r.long ∙ sym s.long) (r.sums ∙ sym s.sums);
        reaches = λ x t. (naf_of (w - 1) n x, recoded-n widest n w x b.low n⁺ (omega (arith, t.inside)));
        roomy = λ bytes p. let h = last_byte (n - 1) p in
            let m = pow_pos ((n - 1) % 8) in
            let q = 2 ^ ((n - 1) % 8) in
            (λ t. h.0 (omega (arith, leb→le (get_or bytes ((n - 1) / 8) 0) (q - 1) t)), λ l. le→leb (get_or bytes ((n - 1) / 8) 0) (q - 1) (omega (arith, h.1 l)));
        held = bits-held (n - 1);
        tallies = λ ds l. (rw (← l) (count_most ds), rw (← l) (additions-most ds));
      }

-- ---- R, over the number of entries and the width

module _ (entries w : ℕ) (m : 64 ≤ entries) where
  -- the row's bits: 255 at width 4 alone, else all 256
  bits-4 : w ≡ 4 → (row w).bits ≡ 255
  unfolding row
  bits-4 e = rw e

  row_room : (bytes : List ℕ) → T (width_r w) → Bytes 32 bytes → T (not (eqb w 4) || leb (get_or bytes 31 0) 127) ↔ (integer bytes < 2 ^ (row w).bits)
  row_room bytes a p = by_cases (ℕ_discrete w 4) short (λ f. rw (all-bits w a f, ne_eqb w 4 f) (λ t. subst (λ (k : ℕ). integer bytes < 256 ^ k) p.long (size 256 bytes p.small), λ l. tt))
    where
      h : (get_or bytes 31 0 < 128) ↔ (integer bytes < 2 ^ 255)
      h = last_byte 255 p

      short : w ≡ 4 → T (not (eqb w 4) || leb (get_or bytes 31 0) 127) ↔ (integer bytes < 2 ^ (row w).bits)
      short e = rw (bits-4 e, eq-eqb w 4 e) (λ t. h.0 (omega (arith, leb→le (get_or bytes 31 0) 127 t)), λ l. le→leb (get_or bytes 31 0) 127 (omega (arith, h.1 l)))

  row-held : T (width_r w) → 2 ^ (row w).bits ≤ 256 ^ 32
  unfolding row
  row-held = at-widths (λ v. 2 ^ (row v).bits ≤ 256 ^ 32) (lit≤ tt) (lit≤ tt) (lit≤ tt) (lit≤ tt) (lit≤ tt) w

  pub lawful-r : T (width_r w) → Lawful (form_r entries w)
  lawful-r a =
      let b = width-between 4 8 w a in
      let f = row_fits w a in
      let n = (row w).digits in
      record {
        fixes = λ x ds es r s. unique-r w n (row w).top (omega (arith, b.low)) ds es r.keeps.digits s.keeps.digits (r.long ∙ sym s.long) (r.sums ∙ sym s.sums);
        reaches = λ x t. (radix_of w (entries - n) (n - 1) x, recoded-r entries w x a m (omega (arith, t.inside)));
        roomy = λ bytes p. row_room bytes a p;
        held = row-held a;
        tallies = λ ds l. (omega (arith, f.most), omega arith);
      }

-- ---- the card's forms, and condition 3 for the two

pub lawful-card-n : (w : ℕ) → T (width_n 8 w) → Lawful (card_n w)
lawful-card-n w = lawful-n 8 256 w (lit< tt)

pub lawful-card-r : (w : ℕ) → T (width_r w) → Lawful (card_r w)
lawful-card-r w = lawful-r 64 w (lit≤ tt)

-- N's formulas over the number of digits, on the card: 32 bytes, and byte 31 at most 127
pub card-scalar : (w : ℕ) (bytes : List ℕ) → ((card_n w).bytes ≡ 32) × ((card_n w).room bytes ≡ leb (get_or bytes 31 0) 127)
card-scalar w bytes = (refl, refl)

pub equal-digits-n : (widest n w : ℕ) → 0 < n → (ds es : List ℤ) → Passes (form_n widest n w) ds → Passes (form_n widest n w) es → (ds ≡ es) ↔ (weighted 2 ds ≡ weighted 2 es)
equal-digits-n widest n w n⁺ = equal-digits (form_n widest n w) (lawful-n widest n w n⁺)

pub equal-digits-r : (entries w : ℕ) → 64 ≤ entries → (ds es : List ℤ) → Passes (form_r entries w) ds → Passes (form_r entries w) es → (ds ≡ es) ↔ (weighted (2 ^ w) ds ≡ weighted (2 ^ w) es)
equal-digits-r entries w m = equal-digits (form_r entries w) (lawful-r entries w m)

pub exactly-n : (widest n w : ℕ) (x : ℕ) → T (width_n widest w) → 0 < n → x < 2 ^ (n - 1) → ExactlyOne (form_n widest n w) x
exactly-n widest n w x a n⁺ h = exactly-one (form_n widest n w) (lawful-n widest n w n⁺) x a (record { inside = h })

pub exactly-r : (entries w : ℕ) (x : ℕ) → T (width_r w) → 64 ≤ entries → x < 2 ^ (row w).bits → ExactlyOne (form_r entries w) x
exactly-r entries w x a m h = exactly-one (form_r entries w) (lawful-r entries w m) x a (record { inside = h })

-- .. over the integers: the recoder's

pub recodable-n : (widest n w : ℕ) (x : ℕ) → T (width_n widest w) → 0 < n → x < 2 ^ (n - 1) → Recodable (form_n widest n w) x
recodable-n widest n w x a n⁺ h = recodable (form_n widest n w) (lawful-n widest n w n⁺) x a (record { inside = h })

pub recodable-r : (entries w : ℕ) (x : ℕ) → T (width_r w) → 64 ≤ entries → x < 2 ^ (row w).bits → Recodable (form_r entries w) x
recodable-r entries w x a m h = recodable (form_r entries w) (lawful-r entries w m) x a (record { inside = h })
