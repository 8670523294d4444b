-- What an arc adds to a sum over chosen arcs: its amount, or nothing.
use Rattle.std.proofs.Common.{◌≡◌, ℕ, ◌+◌, ◌≤◌, Bool, true, false, cond, refl, arith}

-- what an arc adds, if it is chosen
abbrev pub share : Bool → ℕ → ℕ
share chosen amount = cond chosen amount 0

-- the share of a sum is the sum of the shares
pub share-add : (chosen : Bool) (x y : ℕ) → share chosen (x + y) ≡ share chosen x + share chosen y
share-add true x y = refl
share-add false x y = omega arith

-- a share of nothing is nothing
pub share-zero : (chosen : Bool) → share chosen 0 ≡ 0
share-zero true = refl
share-zero false = refl

-- a share grows with the amount
pub share-le : (chosen : Bool) (x y : ℕ) → x ≤ y → share chosen x ≤ share chosen y
share-le true x y h = h
share-le false x y h = omega arith

-- amounts that are the same if they count have the same share
pub share-same : (chosen : Bool) (x y : ℕ) → (chosen ≡ true → x ≡ y)
    → share chosen x ≡ share chosen y
share-same true x y h = h refl
share-same false x y h = refl

-- the share of what counts is the whole
pub share_whole : (chosen : Bool) (x : ℕ) → chosen ≡ true → share chosen x ≡ x
share_whole true x h = refl
share_whole false x h = cc
