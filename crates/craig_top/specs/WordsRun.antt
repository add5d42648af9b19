-- What a run has read and put when it ends, by the words that the program was given.
use Rattle.std.specs.Prelude.{◌≡◌, ℕ, List, Option, Some, None, ◌⊎◌}
use Rattle.craig_words.specs.declared.words.Words.{Words}
use Rattle.craig_top.specs.declared.settings.Settings.{Settings}
use Rattle.craig_top.specs.declared.status.Status.{Status}
use Rattle.craig_top.specs.declared.status.Status.TheVariants.{Done, NoMemory}
use Rattle.craig_top.specs.Ending.{EndsDone, Promise}
use Rattle.craig_top.specs.GeneratedRun.{GeneratedPromise}
use Rattle.craig_top.specs.StartingSettings.{starting_settings}

-- what the words set, and else what holds at the start
abbrev pub set_or : {A : Type 0} → A → Option A → A
set_or start None = start
set_or start (Some x) = x

-- the settings of a run with these words: those of the start where they set nothing
abbrev pub settings_with : Words → Settings
settings_with w = record {
  system = set_or starting_settings.system w.system;
  format = set_or starting_settings.format w.format;
  limit = set_or starting_settings.limit w.limit;
}

-- what a run has read and put: a script from the source is answered, or, where the words give a number of steps, the
-- source is not read and the generator's script is answered
abbrev pub PromiseBy : Option ℕ → Settings → (bound : ℕ) → Status → (left_before left_after held_before held_after : Option (List ℕ)) → Type 0
PromiseBy None settings bound status left_before left_after held_before held_after = Promise settings bound status left_before left_after held_before held_after
PromiseBy (Some steps) settings bound status left_before left_after held_before held_after = (left_after ≡ left_before) × GeneratedPromise settings steps status held_before held_after

-- what the words promise
abbrev pub PromiseWith : Words → (bound : ℕ) → Status → (left_before left_after held_before held_after : Option (List ℕ)) → Type 0
PromiseWith w bound status left_before left_after held_before held_after = PromiseBy w.steps (settings_with w) bound status left_before left_after held_before held_after

-- where nothing failed, the script is answered to its end or memory ran out: one that is told and shorter than the
-- bound, or the generator's
abbrev pub EndsDoneBy : Option ℕ → (bound : ℕ) → Status → (left_before : Option (List ℕ)) → (read_failed write_failed : Type 0) → Type 0
EndsDoneBy None bound status left_before read_failed write_failed = EndsDone bound status left_before read_failed write_failed
EndsDoneBy (Some steps) bound status left_before read_failed write_failed = ¬ write_failed → (status ≡ Done) ⊎ (status ≡ NoMemory)
