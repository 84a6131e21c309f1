-- The modules of a synthetic tree, by a seed: 64 to a file.
use Rattle.std.specs.Prelude.{ℕ, ◌+◌, ◌*◌, ◌/◌, ◌%◌, ◌==◌, ◌&&◌, Bool, List, [], ◌∷◌, ◌++◌, if◌then◌else◌, codes}
use Rattle.std.specs.Prelude.{decimal}

-- The first module of a module's file.
abbrev pub first_in_file : ℕ → ℕ
first_in_file i = 64 * (i / 64)

-- How many modules stand before a module in its file.
abbrev pub index_in_file : ℕ → ℕ
index_in_file i = i % 64

-- The first module that a module depends on.
abbrev pub near_dependency : ℕ → ℕ → ℕ
near_dependency seed i = first_in_file i + (seed + 7 * i) % index_in_file i

-- The second module that a module depends on.
abbrev pub far_dependency : ℕ → ℕ → ℕ
far_dependency seed i = first_in_file i + (3 * seed + 11 * i) % index_in_file i

-- The modules that a module depends on stand before it in its file. They may be one module twice.
abbrev pub dependencies : ℕ → ℕ → List ℕ
dependencies seed i =
    if index_in_file i == 0 then []
    else if index_in_file i == 1 then near_dependency seed i ∷ []
    else near_dependency seed i ∷ far_dependency seed i ∷ []

-- A module's name in quotes, and what stands behind it.
abbrev pub quoted_name : ℕ → List ℕ → List ℕ
quoted_name n behind = codes "\"m" ++ (decimal n ++ (codes "\"" ++ behind))

-- Names in quotes, joined by a comma and a space.
abbrev pub names_text : List ℕ → List ℕ
names_text [] = []
names_text (n ∷ []) = quoted_name n []
names_text (n ∷ m ∷ more) = quoted_name n (codes ", " ++ names_text (m ∷ more))

-- The last module of a file is a program, and the others are libraries.
abbrev pub type_text : ℕ → List ℕ
type_text i = if index_in_file i == 63 then codes "cc_binary" else codes "cc_library_static"

-- Of four programs that follow one another one has the address sanitizer.
abbrev pub is_sanitized : ℕ → ℕ → Bool
is_sanitized seed i = index_in_file i == 63 && (seed + i / 64) % 4 == 0

-- What stands behind a module's lists.
abbrev pub end_text : ℕ → ℕ → List ℕ
end_text seed i = if is_sanitized seed i then codes "    sanitize: { address: true },\n}\n" else codes "}\n"

-- The text of a module.
abbrev pub module_text : ℕ → ℕ → List ℕ
module_text seed i =
    type_text i ++ (codes " {\n    name: \"m" ++ (decimal i ++ (codes "\",\n    srcs: [\"m" ++ (decimal i
    ++ (codes ".c\"],\n    static_libs: [" ++ (names_text (dependencies seed i)
    ++ (codes "],\n" ++ end_text seed i)))))))
