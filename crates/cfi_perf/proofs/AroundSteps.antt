-- Whether the ids of events are at hand, step by step.
use Rattle.std.proofs.Common.{◌≡◌, Bool, true, false, List, ◌∷◌, ap, ◌∙◌}
use Rattle.std.specs.Prelude.{◌&&◌}
use Rattle.std.specs.List.{list_all}
use Rattle.std.specs.Option.{is_some}
use Rattle.cfi_perf.specs.declared.event_entry.EventEntry.{EventEntry}
use Rattle.cfi_perf.specs.declared.file_bytes.FileBytes.{FileBytes}
use Rattle.cfi_perf.specs.FileParts.{parts_at_hand}

abbrev pub are_known : FileBytes → List EventEntry → Bool
are_known file entries = list_all (λ e. is_some (parts_at_hand file e.ids)) entries

module _ (file : FileBytes) (left : List EventEntry) (e : EventEntry) (others : List EventEntry) (is : left ≡ e ∷ others) where
  pub one_unknown : is_some (parts_at_hand file e.ids) ≡ false → are_known file left ≡ false
  one_unknown not = ap (are_known file) is ∙ ap (λ (b : Bool). b && are_known file others) not

  pub one_known : is_some (parts_at_hand file e.ids) ≡ true → are_known file left ≡ are_known file others
  one_known known = ap (are_known file) is ∙ ap (λ (b : Bool). b && are_known file others) known
