mod Healthy
mod Journals
mod LogHealthy
mod Looked
mod Places
mod Writing
