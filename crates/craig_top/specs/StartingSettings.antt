-- The settings of a run whose words set nothing.
use Rattle.std.specs.Prelude.{None}
use Rattle.craig_top.specs.declared.settings.Settings.{Settings}
use Rattle.craig_script.specs.declared.setting_words.SystemWord.TheVariants.{Pudlak}
use Rattle.craig_script.specs.declared.setting_words.FormatWord.TheVariants.{Aag}

-- Pudlák's system, the aag format and no limit
abbrev pub starting_settings : Settings
starting_settings = record { system = Pudlak; format = Aag; limit = None }
