mod worlds
mod used_once
mod accepted_once
mod own_key
mod completed_by_host
mod calm_stores
