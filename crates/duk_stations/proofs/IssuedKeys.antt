-- What the host's security module issues for a station is its own initial key, and why it issues none.
use Rattle.std.proofs.Common.{◌≡◌, ℕ, List, None, replicate, rules, subst, sym}
use Rattle.duk_block.specs.KeyBlock.{FitsKeyBlock, IsKeyBlock}
use Rattle.duk_block.specs.declared.header.Header.{Header}
use Rattle.duk_hsm.specs.Commands.{IsIssued, IssueRefused}
use Rattle.duk_hsm.specs.InitialKey.{IsInitialKeyOf}
use Rattle.duk_hsm.specs.Keys.{HsmKeys, key_set_of}
use Rattle.duk_hsm.specs.declared.fault.HsmFault.{HsmFault}
use Rattle.duk_hsm.specs.declared.fault.HsmFault.TheVariants as fault
use Rattle.duk_tdes.specs.Tdes.{IsTdesKey}
use Rattle.duk_term.specs.Load.{Loading, loading_of}
use Rattle.duk_term.specs.Loading.{WrapsInitialKey}
use Rattle.duk_tree.specs.Serial.{iksn_prefix_of}

fits : FitsKeyBlock 16 6
fits = search rules

-- with padding that fits, there is no key set
pub no_key_set : (keys : HsmKeys) (iksn : ℕ) (why : HsmFault) → IssueRefused keys iksn (replicate 6 0) why → key_set_of keys (iksn_prefix_of iksn) ≡ None
no_key_set keys iksn fault.NoKeySet refused = refused
no_key_set keys iksn (fault.Block why) refused = absurd (refused.1.does_not_fit fits)
no_key_set keys iksn fault.WrongUse refused = absurd refused
no_key_set keys iksn fault.PrefixTaken refused = absurd refused
no_key_set keys iksn fault.SlotsFull refused = absurd refused
no_key_set keys iksn fault.ZoneTaken refused = absurd refused
no_key_set keys iksn fault.NoZone refused = absurd refused
no_key_set keys iksn fault.BadCounter refused = absurd refused
no_key_set keys iksn fault.BadMac refused = absurd refused
no_key_set keys iksn fault.BadPinBlock refused = absurd refused

-- under one key a text is a key block of at most one header and one key
abbrev pub OneKeyBlock : Type 0
OneKeyBlock = (text protection_key : List ℕ) (header other_header : Header) (key other_key : List ℕ) → IsTdesKey protection_key
    → IsKeyBlock text protection_key header key → IsKeyBlock text protection_key other_header other_key → (header ≡ other_header) × (key ≡ other_key)

-- a station finds no other key in what is issued for it than its own initial key
abbrev pub IssuedIsOwnKey : Type 0
IssuedIsOwnKey = (keys : HsmKeys) (iksn : ℕ) (loading padding text initial : List ℕ) → IsTdesKey loading → IsIssued keys iksn loading padding text → WrapsInitialKey loading text initial
    → IsInitialKeyOf keys iksn initial

pub own_key : OneKeyBlock → IssuedIsOwnKey
own_key one keys iksn loading padding text initial loading_is issued wrapped = record {
  bdk = issued.bdk;
  held = issued.held;
  initial_is = (one text loading _ _ _ _ loading_is wrapped.wraps.block issued.written.block).1;
  is_key = record { size_is = wrapped.use_is.length_is; bytes_fit = wrapped.wraps.block.key_is.bytes_fit };
}

-- what a station is asked to load is its own initial key
abbrev pub IsOwnKey : HsmKeys → Loading → Type 0
IsOwnKey keys asked = (initial : List ℕ) → WrapsInitialKey asked.loading_key asked.block initial → IsInitialKeyOf keys asked.iksn initial

pub issued_own : IssuedIsOwnKey → (keys : HsmKeys) (iksn : ℕ) (loading padding block : List ℕ) (asked : Loading) → IsTdesKey loading → IsIssued keys iksn loading padding block → asked ≡ loading_of loading block iksn → IsOwnKey keys asked
issued_own own keys iksn loading padding block asked loading_is issued asked_is =
    subst (λ (it : Loading). IsOwnKey keys it) (sym asked_is) (λ initial wrapped. own keys iksn loading padding block initial loading_is issued wrapped)
