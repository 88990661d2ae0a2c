-- A quoted text as the bytes of the source's byte strings.
use Rattle.std.specs.Prelude.{List, [], ◌∷◌, ℕ}
use Prim.Native.Char.{code}
use Prim.Native.String.{String, [] as nothing, ◌∷◌ as ◌before◌}

-- the codes of the characters, all below 128 here
abbrev pub bytes_of : String → List ℕ
bytes_of nothing = []
bytes_of (◌before◌ c text) = code c ∷ bytes_of text

abbrev pub space : ℕ
space = code " "

abbrev pub line_feed : ℕ
line_feed = code "\n"
