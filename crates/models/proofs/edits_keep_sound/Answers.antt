use Rattle.models.proofs.Toggles.{gained-sound, toggled-sound, complemented_around-sound, crossed-sound}
use Rattle.models.proofs.Keeps.{blank-sound, placed-sound, removed-sound, scaled-sound, zeroed-sound, attached-sound, detached-sound}
use Rattle.models.proofs.Fuses.{fused-sound}
use Rattle.models.proofs.edits_keep_sound.Goals as goal

pub returns : goal.returns
returns c = record {
  blank = blank-sound;
  placed = placed-sound;
  removed = removed-sound;
  gained = gained-sound;
  toggled = toggled-sound;
  complemented_around = complemented_around-sound;
  crossed = crossed-sound;
  scaled = scaled-sound;
  zeroed = zeroed-sound;
  fused = fused-sound;
  attached = attached-sound;
  detached = detached-sound;
}
