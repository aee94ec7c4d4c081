-- No two contents have one canonical text.
use Rattle.std.proofs.Common.{◌≡◌, ℕ, ℤ, pos, negsuc, ◌<◌, ◌≤◌, ◌^◌, List, [], ◌∷◌, length, get_or}
use Rattle.std.proofs.Common.{◌+◌, ◌%◌, ◌++◌, ◌⊎◌, inl, inr, refl, sym, ap, subst, arith}
use Rattle.ps_formula.specs.Formula.{HasTree}
use Rattle.std.specs.Prelude.{FitsSigned}
use Rattle.std.specs.Fmt.{decimal, signed_decimal}
use Rattle.std.specs.Int.{w64}
use Rattle.std.proofs.lemmas.Fmt.{decimal_by_steps, signed_decimal_injective}
use Rattle.ps_formula.proofs.Texts.{one_tree}
use Rattle.ps_formula.specs.Canonical.{canon}
use Rattle.ps_content.specs.Content.{canonical_text, IsContent}
use Rattle.ps_content.specs.declared.content.Content.{Content}
use Rattle.ps_content.specs.declared.content.Content.TheVariants.{Blank, Number, Text, Formula, Tally, Choice}

-- the first byte, 0 where there is none
abbrev front : List ℕ → ℕ
front text = get_or text 0 0

abbrev IsDigit : ℕ → Type 0
IsDigit b = (48 ≤ b) × (b ≤ 57)

still_digit : (ds : List ℕ) (d : ℕ) → IsDigit (front ds) → IsDigit (front (ds ++ d ∷ []))
still_digit [] d h = absurd (omega arith)
still_digit (x ∷ ds) d h = h

decimal_front : (n : ℕ) → n < 2 ^ 64 → IsDigit (front (decimal n))
decimal_front n small =
    decimal_by_steps (λ _ text. IsDigit (front text)) (λ m below. (omega arith, omega arith))
    (λ m ds above h. still_digit ds (48 + m % 10) h) n small

-- a number begins with `-` or a digit
number_front : (z : ℤ) → FitsSigned w64 z → (45 ≤ front (signed_decimal z)) × (front (signed_decimal z) ≤ 57)
number_front (pos n) fits = let h = decimal_front n (omega (arith, fits.sfits)) in (omega arith, h.1)
number_front (negsuc n) fits = (omega arith, omega arith)

-- a first byte that no number has
no_number : (z : ℤ) (b : ℕ) → FitsSigned w64 z → (b < 45) ⊎ (57 < b) → b ≡ front (signed_decimal z) → ⊥
no_number z b fits (inl low) e = let h = number_front z fits in omega arith
no_number z b fits (inr high) e = let h = number_front z fits in omega arith

pub canonical_text-injective : (c d : Content) → IsContent c → IsContent d → canonical_text c ≡ canonical_text d → c ≡ d
canonical_text-injective Blank Blank h k e = refl
canonical_text-injective Blank (Number z) h k e = absurd (no_number z 0 k (inl (omega arith)) (ap front e))
canonical_text-injective Blank (Text t) h k e = absurd (omega (arith, ap front e))
canonical_text-injective Blank (Formula t) h k e = absurd (omega (arith, ap front e))
canonical_text-injective Blank Tally h k e = absurd (omega (arith, ap front e))
canonical_text-injective Blank Choice h k e = absurd (omega (arith, ap front e))
canonical_text-injective (Number z) Blank h k e = absurd (no_number z 0 h (inl (omega arith)) (sym (ap front e)))
canonical_text-injective (Number z) (Number y) h k e = ap Number (signed_decimal_injective z y h.sfits k.sfits e)
canonical_text-injective (Number z) (Text t) h k e = absurd (no_number z 39 h (inl (omega arith)) (sym (ap front e)))
canonical_text-injective (Number z) (Formula t) h k e = absurd (no_number z 61 h (inr (omega arith)) (sym (ap front e)))
canonical_text-injective (Number z) Tally h k e = absurd (no_number z 64 h (inr (omega arith)) (sym (ap front e)))
canonical_text-injective (Number z) Choice h k e = absurd (no_number z 64 h (inr (omega arith)) (sym (ap front e)))
canonical_text-injective (Text t) Blank h k e = absurd (omega (arith, ap front e))
canonical_text-injective (Text t) (Number z) h k e = absurd (no_number z 39 k (inl (omega arith)) (ap front e))
canonical_text-injective (Text t) (Text u) h k e = ap Text (cc)
canonical_text-injective (Text t) (Formula u) h k e = absurd (omega (arith, ap front e))
canonical_text-injective (Text t) Tally h k e = absurd (omega (arith, ap front e))
canonical_text-injective (Text t) Choice h k e = absurd (omega (arith, ap front e))
canonical_text-injective (Formula t) Blank h k e = absurd (omega (arith, ap front e))
canonical_text-injective (Formula t) (Number z) h k e = absurd (no_number z 61 k (inr (omega arith)) (ap front e))
canonical_text-injective (Formula t) (Text u) h k e = absurd (omega (arith, ap front e))
canonical_text-injective (Formula t) (Formula u) h k e =
    ap Formula (one_tree (canon u) t u (subst (λ text. HasTree text t) e h.0) k.0)
canonical_text-injective (Formula t) Tally h k e = absurd (omega (arith, ap front e))
canonical_text-injective (Formula t) Choice h k e = absurd (omega (arith, ap front e))
canonical_text-injective Tally Blank h k e = absurd (omega (arith, ap front e))
canonical_text-injective Tally (Number z) h k e = absurd (no_number z 64 k (inr (omega arith)) (ap front e))
canonical_text-injective Tally (Text t) h k e = absurd (omega (arith, ap front e))
canonical_text-injective Tally (Formula t) h k e = absurd (omega (arith, ap front e))
canonical_text-injective Tally Tally h k e = refl
canonical_text-injective Tally Choice h k e = absurd (omega (arith, ap length e))
canonical_text-injective Choice Blank h k e = absurd (omega (arith, ap front e))
canonical_text-injective Choice (Number z) h k e = absurd (no_number z 64 k (inr (omega arith)) (ap front e))
canonical_text-injective Choice (Text t) h k e = absurd (omega (arith, ap front e))
canonical_text-injective Choice (Formula t) h k e = absurd (omega (arith, ap front e))
canonical_text-injective Choice Tally h k e = absurd (omega (arith, ap length e))
canonical_text-injective Choice Choice h k e = refl
