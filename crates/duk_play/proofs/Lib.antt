mod LinesOfTills
mod NewEnds
mod NewTills
mod PlayedScripts
mod ScriptLineByLine
mod SpacedTokens
