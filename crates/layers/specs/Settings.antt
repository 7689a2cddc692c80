-- Rows of settings: which are taken, and which settings their bytes stand for. Assumes nothing.
use Rattle.std.specs.Prelude.{◌≡◌, ℕ, ◌+◌, ◌-◌, ◌<◌, ◌≤◌, Bool, true, false, if◌then◌else◌, ◌||◌, ◌⊎◌, List, [], ◌∷◌, ◌++◌, map, length, take, replicate, Some, None, Ok, Err, Option, Result, ◌==◌, nat_le, nat_lt, slice_index}
use Rattle.refusals.specs.declared.AskRefusal.{AskRefusal}
use Rattle.refusals.specs.declared.AskRefusal.TheVariants.{HoldSetting}
use Rattle.diagrams.specs.declared.items.Setting.{Setting}
use Rattle.diagrams.specs.declared.items.Setting.TheVariants.{Open, HeldZero, HeldOne}
use Rattle.layers.specs.declared.settings.Settings.{Settings}

-- how many settings a row may have
abbrev pub settings_limit : ℕ
settings_limit = 64

-- the setting that a byte stands for: 0 and 1 hold a leg, and 2 leaves it open
abbrev pub setting_of : ℕ → Setting
setting_of b = if b == 0 then HeldZero else if b == 1 then HeldOne else Open

-- a byte at a place is invalid: it is above 2, or the place is past the last
abbrev pub invalid : ℕ → ℕ → Bool
invalid p b = nat_le settings_limit p || nat_lt 2 b

-- what is made of one byte
abbrev pub judged : ℕ → ℕ → Result Setting AskRefusal
judged p b = elim (invalid p b) [ true ↦ Err (HoldSetting p) | false ↦ Ok (setting_of b) ]

-- the first place whose byte is invalid, where the next byte is at place p
abbrev pub first_invalid : ℕ → List ℕ → Option ℕ
first_invalid p [] = None
first_invalid p (b ∷ bs) = elim (invalid p b) [ true ↦ Some p | false ↦ first_invalid (p + 1) bs ]

-- some settings, and open ones up to the limit
abbrev pub padded : List Setting → List Setting
padded ss = ss ++ replicate (settings_limit - length ss) Open

-- what is made of a row
abbrev pub settled : List ℕ → Result Settings AskRefusal
settled bs = elim (first_invalid 0 bs) [
  | Some p ↦ Err (HoldSetting p)
  | None ↦ Ok (record { table = padded (map setting_of bs); count = length bs })
]

-- the settings that a value has, in order
abbrev pub settings_in : Settings → List Setting
settings_in s = take s.count s.table

-- all bytes of a row are valid: they are at most as many as the limit, and none is above 2
pub record AllValid (bs : List ℕ) : Type 0 where
  pub few : length bs ≤ settings_limit
  pub low : (k : ℕ) → k < length bs → slice_index bs k ≤ 2

-- the byte at place p is the first that is not: it is the first past the limit, or above 2
pub record InvalidAt (bs : List ℕ) (p : ℕ) : Type 0 where
  pub within : p < length bs
  pub invalid_here : (p ≡ settings_limit) ⊎ (2 < slice_index bs p)
  pub valid_before : (k : ℕ) → k < p → (k < settings_limit) × (slice_index bs k ≤ 2)

-- a refusal names that place
abbrev pub NamesFirst : List ℕ → AskRefusal → Type 0
NamesFirst bs e = (p : ℕ) × (e ≡ HoldSetting p) × InvalidAt bs p
