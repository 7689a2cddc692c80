-- The settings that bytes stand for. Assumes nothing.
use Rattle.std.specs.Prelude.{ℕ, if◌then◌else◌, Ok, Err, Result, ◌==◌}
use Rattle.diagrams.specs.declared.items.Setting.{Setting}
use Rattle.diagrams.specs.declared.items.Setting.TheVariants.{Open, HeldZero, HeldOne}
use Rattle.diagrams.specs.declared.items.settings.NoSetting.{NoSetting}

-- 0 and 1 hold a leg, 2 leaves it open, and any other stands for none
abbrev pub setting_from : ℕ → Result Setting NoSetting
setting_from b = if b == 0 then Ok HeldZero else if b == 1 then Ok HeldOne else if b == 2 then Ok Open else Err (record {})
