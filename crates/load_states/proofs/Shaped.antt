-- Items of one shape are alike to a load: what it needs to know of their files for a refusal, and how many bytes each has.
use Rattle.std.proofs.Common.{◌≡◌, ℕ, List, [], ◌∷◌, length, map, Option, Some, None, option_map, refl, sym, ap, ◌∙◌}
use Rattle.std.specs.List.{AllByRecursion}
use Rattle.std.specs.Option.{option_map_or}
use Rattle.std.specs.Str.{bytes_eq}
use Rattle.cfg_directory.specs.declared.item.Item.{Item}
use Rattle.cfg_directory.specs.declared.listed.Listed.{Listed}
use Rattle.cfg_directory.specs.Items.{named}
use Rattle.cfg_directory.specs.Files.{files_of}
use Rattle.cfg_directory.specs.Listing.{listed_of}
use Rattle.cfg_directory.specs.Shapes.{Shape, shape_of, HaveOneShape}
use Rattle.cfg_directory.proofs.Shapes.{same_listed}
use Rattle.vt_outside.specs.File.{File}
use Rattle.loader_script.specs.declared.refusing.FileInfo.{FileInfo}
use Rattle.loader_script.specs.Run.{file_of, infos_of, bytes_of}
use Rattle.loader_script.proofs.Named.{find-map}
use Rattle.command_acts.specs.declared.placed.PlacedFile.{PlacedFile}
use Rattle.command_acts.specs.FilesInMemory.{IsOfSize, IsLoading}
use Rattle.command_acts.proofs.ItemsWritten.{as_file}
use Rattle.load_states.specs.LoadState.{listed_named}
use Rattle.load_states.proofs.NamedItems.{listing, listed_as_named}

-- what a refusal needs to know of a file, by its shape
abbrev info_by : Shape → FileInfo
info_by shape = record { name = shape.listed.name; size = shape.listed.size; writable = shape.writable }

infos_by : (items : List Item) → infos_of (files_of items) ≡ map info_by (map shape_of items)
infos_by [] = refl
infos_by (item ∷ items) = ap (λ (infos : List FileInfo). info_by (shape_of item) ∷ infos) (infos_by items)

pub same_infos : (before after : List Item) → HaveOneShape before after → infos_of (files_of after) ≡ infos_of (files_of before)
same_infos before after same = infos_by after ∙ ap (map info_by) same ∙ sym (infos_by before)

-- how many bytes the file of a name has, as the directory lists it
size_listed : (o : Option Item)
    → option_map (λ (file : File). length file.bytes) (option_map as_file o) ≡ option_map (λ (l : Listed). l.size) (option_map listing o)
size_listed None = refl
size_listed (Some item) = refl

sizes_listed : (items : List Item) (name : List ℕ)
    → option_map (λ (file : File). length file.bytes) (file_of (files_of items) name)
    ≡ option_map (λ (l : Listed). l.size) (listed_named (listed_of items) name)
sizes_listed items name =
    ap (option_map (λ (file : File). length file.bytes)) (find-map as_file (λ (f : File). bytes_eq f.name name) items)
    ∙ size_listed (named items name) ∙ ap (option_map (λ (l : Listed). l.size)) (sym (listed_as_named items name))

-- so has the file of a name
sized_bytes : (o : Option File)
    → length (option_map_or (λ (file : File). file.bytes) o []) ≡ option_map_or (λ (n : ℕ). n) (option_map (λ (file : File). length file.bytes) o) 0
sized_bytes None = refl
sized_bytes (Some file) = refl

same_sizes : (before after : List Item) (name : List ℕ) → HaveOneShape before after
    → option_map (λ (file : File). length file.bytes) (file_of (files_of after) name)
    ≡ option_map (λ (file : File). length file.bytes) (file_of (files_of before) name)
same_sizes before after name same =
    sizes_listed after name
    ∙ ap (λ (ls : List Listed). option_map (λ (l : Listed). l.size) (listed_named ls name)) (same_listed before after same)
    ∙ sym (sizes_listed before name)

pub bytes_as_many : (before after : List Item) (name : List ℕ) → HaveOneShape before after
    → length (bytes_of (files_of after) name) ≡ length (bytes_of (files_of before) name)
bytes_as_many before after name same =
    sized_bytes (file_of (files_of after) name) ∙ ap (λ (o : Option ℕ). option_map_or (λ (n : ℕ). n) o 0) (same_sizes before after name same)
    ∙ sym (sized_bytes (file_of (files_of before) name))

-- a placed file that has as many bytes as in fw_cfg has so in both
pub size_shaped : (before after : List Item) (p : PlacedFile) → HaveOneShape before after → IsOfSize (files_of before) p → IsOfSize (files_of after) p
size_shaped before after p same sized =
    same_sizes before after p.name same ∙ sized

sizes_shaped : (before after : List Item) (placed : List PlacedFile) → HaveOneShape before after
    → AllByRecursion (IsOfSize (files_of before)) placed → AllByRecursion (IsOfSize (files_of after)) placed
sizes_shaped before after [] same sizes = tt
sizes_shaped before after (p ∷ placed) same sizes = (size_shaped before after p same sizes.0, sizes_shaped before after placed same sizes.1)

-- so placed files are those of the one as of the other
pub loading_shaped : (top : ℕ) (before after : List Item) (placed : List PlacedFile) → HaveOneShape before after
    → IsLoading top (files_of before) placed → IsLoading top (files_of after) placed
loading_shaped top before after placed same loading =
    record { apart = loading.apart; sizes = sizes_shaped before after placed same loading.sizes }
