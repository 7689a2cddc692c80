-- Open settings fill a row up to the limit. Assumes nothing.
use Rattle.std.proofs.Common.{◌≡◌, ℕ, suc, ◌-◌, ◌<◌, List, [], ◌∷◌, ◌++◌, length, set, replicate, sym, ap, ◌∙◌, arith}
use Rattle.std.proofs.lemmas.List.{append_assoc, length_push, set_at}
use Rattle.diagrams.specs.declared.items.Setting.{Setting}
use Rattle.diagrams.specs.declared.items.Setting.TheVariants.{Open}
use Rattle.layers.specs.Settings.{settings_limit, padded}

-- the next setting takes the place of the first open one that fills
pub padded_more : (ss : List Setting) (s : Setting) (n : ℕ) → length ss ≡ n → n < settings_limit → set (padded ss) n s ≡ padded (ss ++ s ∷ [])
padded_more ss s n e h =
    let more : settings_limit - length ss ≡ suc (settings_limit - length (ss ++ s ∷ [])) = omega (arith, length_push ss s) in
    let rest = replicate (settings_limit - length (ss ++ s ∷ [])) Open in
    ap (λ m. set (ss ++ replicate m Open) n s) more ∙ set_at ss Open rest s n e ∙ sym (append_assoc ss (s ∷ []) rest)
