-- What `find` looks for, and which key makes it (this project's own, over the MACs of ANSI X9.19 and
-- NIST SP 800-38B, PIN blocks of ISO 9564-1 format 0, TDES, and its frames).
use Rattle.std.specs.Prelude.{◌≡◌, ◌⊎◌, ◌<◌, ⊤, ℕ, List, Some, IsSome, length}
use Rattle.duk_block.specs.Hexadecimal.{IsHexadecimal}
use Rattle.duk_commands.specs.Frames.{IsAsked, IsTold, number_of}
use Rattle.duk_commands.specs.Mac.{IsMessage}
use Rattle.duk_commands.specs.Origin.{key_for}
use Rattle.duk_commands.specs.PinBlocks.{block_of_text}
use Rattle.duk_commands.specs.declared.asked.Asked.{Asked}
use Rattle.duk_commands.specs.declared.asked.Asked.TheVariants as asked
use Rattle.duk_commands.specs.declared.origin.Origin.{Origin}
use Rattle.duk_commands.specs.declared.origin.Way.{Way}
use Rattle.duk_commands.specs.declared.origin.Way.TheVariants.{Cipher, Cmac, Retail}
use Rattle.duk_commands.specs.declared.sought.Clue.{Clue}
use Rattle.duk_commands.specs.declared.sought.Clue.TheVariants as clue
use Rattle.duk_commands.specs.declared.sought.Sought.{Sought}
use Rattle.duk_commands.specs.declared.sought.Sought.TheVariants as sought
use Rattle.duk_commands.specs.declared.told.Told.{Told}
use Rattle.duk_commands.specs.declared.told.Told.TheVariants as told
use Rattle.duk_frame.specs.Frame.{mac_text_of}
use Rattle.duk_frame.specs.declared.answer.AnswerFrame.TheVariants as answer
use Rattle.duk_mac.specs.Cmac.{cmac_of}
use Rattle.duk_mac.specs.Retail.{retail_of}
use Rattle.duk_pin.specs.Pan.{IsPan}
use Rattle.duk_pin.specs.PinBlock.{IsPinBlock}
use Rattle.duk_tdes.specs.Tdes.{tdes_decrypted, tdes_encrypted}
use Rattle.duk_tree.specs.Serial.{Serial}

-- the MAC in a frame of a terminal
abbrev pub mac_of_asked : Asked → List ℕ
mac_of_asked (asked.Payment request) = request.mac
mac_of_asked (asked.Reversal reversal) = reversal.mac

-- a frame of the host has this number and this MAC; a refusal has no MAC
abbrev pub IsToldWith : Told → Serial → List ℕ → Type 0
IsToldWith (told.Answer (answer.Reply number code given)) ksn mac = (ksn ≡ number) × (mac ≡ given)
IsToldWith (told.Answer (answer.Refusal number reason)) ksn mac = ⊥
IsToldWith (told.Undoing reply) ksn mac = (ksn ≡ reply.numbers.ksn) × (mac ≡ reply.mac)

-- bytes are a frame of this number with this MAC: a request or a reversal, or a reply to one
abbrev pub HasMac : List ℕ → Serial → List ℕ → Type 0
HasMac bytes ksn mac =
    ((frame : Asked) × IsAsked bytes frame × (ksn ≡ number_of frame) × (mac ≡ mac_of_asked frame))
    ⊎ ((frame : Told) × IsTold bytes frame × IsToldWith frame ksn mac)

-- the arguments write what is looked for: a frame with a MAC; or a MAC of 8 bytes, and the text,
-- which is not empty, that it is made of; or a block, and the PAN of the PIN in it, or the block in
-- clear
abbrev pub IsSought : List ℕ → Clue → Sought → Type 0
IsSought what clue.Frame (sought.Frame bytes ksn mac) =
    IsHexadecimal what bytes.items × HasMac bytes.items ksn mac
IsSought what (clue.Mac text hex) (sought.Mac message mac) =
    (block_of_text what ≡ Some mac) × IsMessage hex text.now message.items
    × (0 < length message.items)
IsSought what (clue.PinBlock text) (sought.PinBlock pan block) =
    (block_of_text what ≡ Some block) × IsPan text.now × (pan ≡ text.now)
IsSought what (clue.Ciphertext text) (sought.Ciphertext clear block) =
    (block_of_text what ≡ Some block) × (block_of_text text.now ≡ Some clear)
IsSought what clue sought = ⊥

-- a key makes it in this way: the MAC is the retail MAC of what stands before it in its frame; or
-- the retail MAC or the CMAC of the text; the block, deciphered, is that of a PIN; or it is the
-- block in clear, enciphered
abbrev pub MakesBy : Sought → List ℕ → Way → Type 0
MakesBy (sought.Frame bytes ksn mac) key Retail = retail_of key (mac_text_of bytes.items) ≡ mac
MakesBy (sought.Mac message mac) key Retail = retail_of key message.items ≡ mac
MakesBy (sought.Mac message mac) key Cmac = cmac_of key message.items ≡ mac
MakesBy (sought.PinBlock pan block) key Cipher =
    (pin : List ℕ) × IsPinBlock pin pan (tdes_decrypted key block)
MakesBy (sought.Ciphertext clear block) key Cipher = tdes_encrypted key clear ≡ block
MakesBy sought key way = ⊥

-- a key of a transaction key makes it
abbrev pub Makes : Sought → List ℕ → Origin → Type 0
Makes sought key origin = MakesBy sought (key_for origin.key key) origin.way

-- what the first argument must be
abbrev pub MeetsWhat : List ℕ → Clue → Type 0
MeetsWhat what clue.Frame = (bytes : List ℕ) × (ksn : Serial) × (mac : List ℕ)
    × IsHexadecimal what bytes × HasMac bytes ksn mac
MeetsWhat what clue = IsSome (block_of_text what)

-- what the text of a MAC must be
abbrev pub MeetsText : Clue → Type 0
MeetsText (clue.Mac text hex) =
    (message : List ℕ) × IsMessage hex text.now message × (0 < length message)
MeetsText clue = ⊤

-- what the PAN of a PIN block must be
abbrev pub MeetsPan : Clue → Type 0
MeetsPan (clue.PinBlock pan) = IsPan pan.now
MeetsPan clue = ⊤

-- what a block in clear must be
abbrev pub MeetsClear : Clue → Type 0
MeetsClear (clue.Ciphertext clear) = IsSome (block_of_text clear.now)
MeetsClear clue = ⊤

-- memory is taken for a frame and for a text
abbrev pub TakesMemory : Clue → Type 0
TakesMemory clue.Frame = ⊤
TakesMemory (clue.Mac text hex) = ⊤
TakesMemory clue = ⊥
